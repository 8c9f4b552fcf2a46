-- each turn takes a member from those that remain
use Rattle.std.proofs.Common.{[], ◌∷◌, ◌++◌, sym, ap, ◌∙◌}
use Rattle.coll_sched.specs.declared.action.Action.TheVariants.{Send}
use Rattle.coll_plans.specs.DirectExchange.{place, crosses}
use Rattle.coll_plans.proofs.DirectChoosing.{step_taken, step_passed}
use Rattle.coll_plans.proofs.direct_exchange.Exchange.push_sends.Goals as goal
use Rattle.coll_plans.proofs.direct_exchange.Exchange.push_sends.Goals.{then-crosses+in_ok-push, else-crosses}

pub loop-p-preserved : goal.loop-p-preserved
loop-p-preserved c = elim c.if-crosses.branch [
  | then-crosses+in_ok-push w ↦
      step_taken (crosses c.args.self.pattern c.args.r) (λ m. Send m (place c.args.self.from m)) c.loop-p.p c.args.self.n
      c.loop-p.round _ c.loop-p-test.true c.loop-p.invariant
      c.if-crosses.round (sym c.crosses.ensures ∙ w.if-crosses.true)
      (w.round-is ∙ (w.in_ok-push.ensures.ok ∙ ap (λ g. c.loop-p.round ++ Send c.loop-p.p g ∷ []) w.place.ensures))
  | else-crosses w ↦
      step_passed (crosses c.args.self.pattern c.args.r) (λ m. Send m (place c.args.self.from m)) c.loop-p.p c.args.self.n
      c.loop-p.round _ c.loop-p-test.true c.loop-p.invariant
      c.if-crosses.round (sym c.crosses.ensures ∙ w.if-crosses.false) w.round-is
]
