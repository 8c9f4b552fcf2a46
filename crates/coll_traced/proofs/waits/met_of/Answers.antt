use Rattle.std.proofs.Common.{◌≡◌, ◌<◌, ◌≤◌, ◌+◌, length, Some, sym, subst, ap, arith}
use Rattle.std.specs.Prelude.{slice_get}
use Rattle.std.proofs.lemmas.Grind.{common_steps}
use Rattle.coll_traced.specs.Ranks.{IsIn}
use Rattle.coll_traced.specs.Stalls.{AreFree, IsBlocked}
use Rattle.coll_traced.specs.Waits.{wait_in}
use Rattle.coll_traced.proofs.PortWaits.{free_more, free_same, get-at}
use Rattle.coll_traced.proofs.waits.met_of.Goals as goal
use Rattle.coll_traced.proofs.waits.met_of.Goals.{then-has+then-not-is_blocked, else-has, else-has-via-then-has+else-not-is_blocked, else-has-via-else-has}

pub loop-rank-preserved : goal.loop-rank-preserved
loop-rank-preserved c =
    let p = c.args.core.now in
    let ports = c.args.ports.now in
    let i = c.loop-rank.rank in
    let port = c.index-ports-rank.result in
    let met = c.loop-rank.met in
    let few : length ports ≤ 64 = c.requires in
    let lt : i < length ports = c.loop-rank-test.true in
    let low : i < 64 = omega arith in
    let there : slice_get ports i ≡ Some port = get-at ports i port lt c.index-ports-rank.is in
    elim c.if-has.branch [
      | then-has+then-not-is_blocked w ↦
          subst (AreFree p ports c.args.waiting (i + 1)) (sym w.met-is)
          (free_more p ports c.args.waiting met i port w.with-met.result there ((c.has.ensures low).0 w.if-has.true)
          (λ blocked. let so = w.is_blocked.ensures.1 blocked in absurd cc) (w.with-met.ensures low) c.loop-rank.invariant)
      | else-has w ↦
          subst (AreFree p ports c.args.waiting (i + 1)) (sym w.met-is)
          (free_same p ports c.args.waiting met i port there
          (λ has free. elim w.else-has.branch [
            | else-has-via-then-has+else-not-is_blocked w' ↦ free (w'.is_blocked.ensures.0 w'.if-not-is_blocked.false)
            | else-has-via-else-has w' ↦ let so = (c.has.ensures low).1 has in absurd cc
          ]) c.loop-rank.invariant)
    ]

pub returns : goal.returns
returns c =
    subst (λ n. AreFree c.args.core.now c.args.ports.now c.args.waiting n c.loop-rank.met) (omega arith) c.loop-rank.invariant
