use Rattle.std.proofs.Common.{arith}
use Rattle.coll_faults.proofs.Drafting.{put_beyond, texts_put}
use Rattle.coll_faults.proofs.draft.put.Goals as goal

pub returns-then-index-len : goal.returns-then-index-len
returns-then-index-len c =
    put_beyond c.args.lines.now.items c.saturating_sub-index.result c.args.patch.now (omega arith) (omega (arith, c.args.lines.now.ok.0))

pub returns : goal.returns
returns c = texts_put c.args.lines.now.items c.saturating_sub-index.result c.as_slice.result c.args.patch.now (omega arith) c.as_slice.ensures.value
