use Rattle.std.proofs.Common.{arith}
use Rattle.coll_diagnosis.proofs.Cutting.{lines-more, lines-passed}
use Rattle.coll_diagnosis.proofs.cured_text.lines_len.Goals as goal

pub loop-index-preserved : goal.loop-index-preserved
loop-index-preserved c =
    rw c.left_after-left.ensures
    (lines-more c.args.text.now c.loop-index.index c.loop-index.left _ c.loop-index-test.true (omega arith) c.loop-index.invariant)

pub returns-then-left-eq0-clause-is : goal.returns-then-left-eq0-clause-is
returns-then-left-eq0-clause-is c = lines-passed _ c.loop-index.index c.loop-index.left _ c.if-left-eq0.true c.loop-index.invariant
