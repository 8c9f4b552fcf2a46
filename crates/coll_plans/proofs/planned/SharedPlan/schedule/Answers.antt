-- by the type's invariant
use Rattle.std.proofs.Common.{arith, subst}
use Rattle.std.specs.Arc.{arc_value}
use Rattle.coll_plans.specs.Plans.{family, IsPlanned, Planned}
use Rattle.coll_plans.proofs.Plans.{all_served}
use Rattle.coll_plans.proofs.planned.SharedPlan.schedule.Goals as goal

pub returns-clause-family : goal.returns-clause-family
returns-clause-family c =
    subst (λ (p : Planned). IsPlanned p.sig p.n (family p.sig p.n)) c.self.view_is
    (all_served (arc_value c.self.inside.sig) c.self.inside.n c.self.invariant.checked (let low = c.self.invariant.low in omega arith) c.self.invariant.few)
