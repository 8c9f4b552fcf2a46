use Rattle.std.proofs.Common.{arith, get_or, rules}
use Rattle.coll_script.proofs.Loops.{drop-at}
use Rattle.coll_views.proofs.Loops.{sum-more}
use Rattle.coll_views.proofs.work.sum_of.Goals as goal

pub loop-number-preserved : goal.loop-number-preserved
loop-number-preserved c =
    let xs = c.args.numbers.now in
    let k = c.loop-number.number-index in
    let front = drop-at xs k 0 c.loop-number-test.true in
    let more = sum-more xs k (get_or xs k 0) c.loop-number.total _ front c.loop-number.invariant in
    first_of (omega (arith, more), search (rules, more))
