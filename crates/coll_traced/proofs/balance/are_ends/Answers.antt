use Rattle.std.proofs.Common.{◌<◌, Contains, rules, refl, subst, sym, ap, arith}
use Rattle.std.proofs.lemmas.Bool.{false≢true}
use Rattle.coll_report.specs.Traces.{entries_of}
use Rattle.coll_report.specs.Views.{trace_seen}
use Rattle.coll_traced.proofs.Closings.{up_to, wrong_end}
use Rattle.coll_traced.proofs.balance.are_ends.Goals as goal

pub returns-then-spents-ranks : goal.returns-then-spents-ranks
returns-then-spents-ranks g c = (λ e. absurd (false≢true e), λ ends. absurd (c.if-spents-ranks.true ends.many))

pub returns-then-not-has_end : goal.returns-then-not-has_end
returns-then-not-has_end g c =
    let rank = c.loop-rank.rank in
    let low : rank < 256 = omega (arith, c.ranges.ranks.fits, c.loop-rank-test.true) in
    let made = ap (λ n. (rank, n)) (c.count_made-made.ensures.each rank low) in (
      λ e. absurd (false≢true e),
      λ ends. wrong_end c.has_end.result c.has_end.ensures c.if-not-has_end.true
          (subst (Contains c.args.spents.now) (sym made) (ends.each rank c.loop-rank-test.true)),
    )

pub loop-rank-preserved : goal.loop-rank-preserved
loop-rank-preserved g c =
    let rank = c.loop-rank.rank in
    let low : rank < 256 = omega (arith, c.ranges.ranks.fits, c.loop-rank-test.true) in
    let made = ap (λ n. (rank, n)) (c.count_made-made.ensures.each rank low) in
    up_to (λ r. Contains c.args.spents.now (r, entries_of r (trace_seen c.args.entries.now))) rank c.loop-rank.invariant
    (subst (Contains c.args.spents.now) made (c.has_end.ensures.0 (search rules)))

pub returns : goal.returns
returns g c = (λ yes. record { many = omega arith; each = λ rank lt. c.loop-rank.invariant rank (omega (arith, lt)) }, λ ends. refl)
