-- each turn takes a member from those that remain
use Rattle.std.proofs.Common.{[], ◌∷◌, ◌++◌, sym, ap, ◌∙◌}
use Rattle.coll_sched.specs.declared.action.Action.TheVariants.{Recv}
use Rattle.coll_plans.specs.DirectExchange.{place, crosses}
use Rattle.coll_plans.proofs.DirectChoosing.{step_taken, step_passed}
use Rattle.coll_plans.proofs.direct_exchange.Exchange.push_recvs.Goals as goal
use Rattle.coll_plans.proofs.direct_exchange.Exchange.push_recvs.Goals.{then-crosses+in_ok-push, else-crosses}

pub loop-q-preserved : goal.loop-q-preserved
loop-q-preserved c = elim c.if-crosses.branch [
  | then-crosses+in_ok-push w ↦
      step_taken (λ m. crosses c.args.self.pattern m c.args.r) (λ m. Recv m (place c.args.self.into m)) c.loop-q.q c.args.self.n
      c.loop-q.round _ c.loop-q-test.true c.loop-q.invariant
      c.if-crosses.round (sym c.crosses.ensures ∙ w.if-crosses.true)
      (w.round-is ∙ (w.in_ok-push.ensures.ok ∙ ap (λ g. c.loop-q.round ++ Recv c.loop-q.q g ∷ []) w.place.ensures))
  | else-crosses w ↦
      step_passed (λ m. crosses c.args.self.pattern m c.args.r) (λ m. Recv m (place c.args.self.into m)) c.loop-q.q c.args.self.n
      c.loop-q.round _ c.loop-q-test.true c.loop-q.invariant
      c.if-crosses.round (sym c.crosses.ensures ∙ w.if-crosses.false) w.round-is
]
