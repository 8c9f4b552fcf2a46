-- each turn takes a member from those that remain, and its row begins where those before it end
use Rattle.std.proofs.Common.{◌≡◌, suc, ◌+◌, [], ◌∷◌, ◌++◌, arith, sym, ap, ◌∙◌}
use Rattle.coll_kinds.specs.Lengths.{row_len, total}
use Rattle.coll_sched.specs.declared.action.Action.TheVariants.{Recv}
use Rattle.coll_plans.specs.declared.direct_pattern.Pattern.TheVariants.{ToAll}
use Rattle.coll_plans.specs.DirectExchange.{crosses}
use Rattle.coll_plans.specs.DirectFamilies.{row_at}
use Rattle.coll_plans.proofs.DirectChoosing.{step_taken, step_passed}
use Rattle.coll_plans.proofs.DirectRowRegions.{row_within}
use Rattle.coll_plans.proofs.direct_row_exchange.push_recvs.Goals as goal
use Rattle.coll_plans.proofs.direct_row_exchange.push_recvs.Goals.{then-crosses+in_ok-push, else-crosses}

pub overflow_cast-len : goal.overflow_cast-len
overflow_cast-len c = omega (arith, row_within (row_len c.args.sig.now) c.loop-q.q c.args.n c.loop-q-test.true, c.requires, c.row_len-len.ensures.len)

pub overflow_add-at : goal.overflow_add-at
overflow_add-at c =
    omega (arith, row_within (row_len c.args.sig.now) c.loop-q.q c.args.n c.loop-q-test.true, c.requires, c.loop-q.invariant.0, c.row_len-len.ensures.len)

pub loop-q-preserved : goal.loop-q-preserved
loop-q-preserved c =
    let next : total (row_len c.args.sig.now) (c.loop-q.q + 1) ≡ total (row_len c.args.sig.now) c.loop-q.q + row_len c.args.sig.now c.loop-q.q =
    ap (total (row_len c.args.sig.now)) (let z : c.loop-q.q + 1 ≡ suc c.loop-q.q = omega arith in z) in (
      omega (arith, next, c.loop-q.invariant.0, c.row_len-len.ensures.len),
      elim c.if-crosses.branch [
        | then-crosses+in_ok-push w ↦
            step_taken (λ m. crosses ToAll m c.args.r) (λ m. Recv m (row_at (row_len c.args.sig.now) m)) c.loop-q.q c.args.n
            c.loop-q.round _ c.loop-q-test.true c.loop-q.invariant.1
            c.if-crosses.round (sym c.crosses.ensures ∙ w.if-crosses.true)
            (w.round-is ∙ (w.in_ok-push.ensures.ok
            ∙ (λ k. c.loop-q.round ++ Recv c.loop-q.q (record { at = c.loop-q.invariant.0 k; len = c.row_len-len.ensures.len k }) ∷ [])))
        | else-crosses w ↦
            step_passed (λ m. crosses ToAll m c.args.r) (λ m. Recv m (row_at (row_len c.args.sig.now) m)) c.loop-q.q c.args.n
            c.loop-q.round _ c.loop-q-test.true c.loop-q.invariant.1
            c.if-crosses.round (sym c.crosses.ensures ∙ w.if-crosses.false) w.round-is
      ],
    )
