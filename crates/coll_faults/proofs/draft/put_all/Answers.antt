use Rattle.std.proofs.Common.{◌≡◌, ◌∙◌, List, ℕ, ap, sym}
use Rattle.coll_parser.specs.Code.{texts}
use Rattle.coll_faults.specs.Drafts.{put}
use Rattle.coll_faults.proofs.Drafting.{put_all-more}
use Rattle.coll_faults.proofs.draft.put_all.Goals as goal

pub loop-patch-preserved : goal.loop-patch-preserved
loop-patch-preserved c =
    let next = c.patch-item.result in
    c.put.ensures
    ∙ (ap (λ (lines : List (List ℕ)). put lines next) c.loop-patch.invariant
    ∙ sym (put_all-more (texts c.args.lines.now.items) c.args.patches.now c.loop-patch.patch-index next c.loop-patch-test.true c.patch-item.is))
