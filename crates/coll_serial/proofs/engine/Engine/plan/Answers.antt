use Rattle.std.proofs.Common.{◌≡◌, ◌⊎◌, Result, Some, sym, subst}
use Rattle.std.specs.Prelude.{IfErr}
use Rattle.coll_kinds.specs.declared.refusal.Refusal.{Refusal}
use Rattle.coll_kinds.specs.declared.refusal.Refusal.TheVariants.{NoMemory}
use Rattle.coll_plans.specs.Plans.{Planned}
use Rattle.coll_core.specs.Cores.{Parts, setting}
use Rattle.coll_serial.specs.Calls.{early_refusal}
use Rattle.coll_serial.proofs.Refused.{plan_refused}
use Rattle.coll_serial.proofs.engine.Engine.plan.Goals as goal
use Rattle.coll_serial.proofs.engine.Engine.plan.Goals.{in-Some, in-None}

pub returns-clause-refused : goal.returns-clause-refused
returns-clause-refused c =
    let groups : c.self.inside.communicators ≡ (setting c.args.self.now).groups =
    subst (λ (p : Parts). c.self.inside.communicators ≡ (setting p).groups) c.self.view_is c.self.invariant.groups_are in
    elim c.match-get_mut.branch [
      | in-Some w ↦ subst (λ (o : Result Planned Refusal). IfErr o
          (λ why. (early_refusal (setting c.args.self.now) c.args.rank c.args.comm c.args.sig ≡ Some why) ⊎ (why ≡ NoMemory))) (sym w.result-is)
          (plan_refused c.self.inside.communicators (setting c.args.self.now) c.args.rank c.args.comm c.in_ok-seat.seat.size
          c.args.sig w.plan_of.result groups c.in_ok-seat.ensures.refused c.in_ok-seat.ensures.size w.plan_of.ensures.refusal)
      | in-None w ↦ subst (λ (o : Result Planned Refusal). IfErr o
          (λ why. (early_refusal (setting c.args.self.now) c.args.rank c.args.comm c.args.sig ≡ Some why) ⊎ (why ≡ NoMemory))) (sym w.result-is)
          (plan_refused c.self.inside.communicators (setting c.args.self.now) c.args.rank c.args.comm c.in_ok-seat.seat.size
          c.args.sig w.plan.result groups c.in_ok-seat.ensures.refused c.in_ok-seat.ensures.size w.plan.ensures.refusal)
    ]
