use Rattle.std.proofs.Common.{◌≡◌}
use Rattle.std.specs.Prelude.{flat_map}
use Rattle.coll_sched.specs.Families.{members}
use Rattle.coll_plans.specs.Plans.{family}
use Rattle.coll_draw.specs.Drawings.{round_steps}
use Rattle.coll_draw.proofs.plans.MemberPlans.steps.Given as goal

abbrev pub invariant-loop-round : goal.invariant-loop-round
invariant-loop-round l =
    l.all.items ≡ flat_map (round_steps l.self.n (family l.self.sig l.self.n)) (members 0 l.round)
