use Rattle.std.proofs.Common.{◌<◌, sym, ◌∙◌, arith}
use Rattle.coll_report.specs.Views.{trace_seen}
use Rattle.coll_traced.specs.Closings.{IsBalanced}
use Rattle.coll_traced.proofs.Closings.{up_to}
use Rattle.coll_traced.proofs.balance.first_unbalanced.Goals as goal

pub loop-rank-preserved : goal.loop-rank-preserved
loop-rank-preserved c =
    let rank = c.loop-rank.rank in
    let low : rank < 256 = omega (arith, c.ranges.ranks.fits, c.loop-rank-test.true) in
    up_to (λ r. IsBalanced r (trace_seen c.args.entries.now)) rank c.loop-rank.invariant
    (sym (c.count_begun-begun.ensures.each rank low) ∙ (c.if-begun-rank.false ∙ c.count_completed-completed.ensures.each rank low))
