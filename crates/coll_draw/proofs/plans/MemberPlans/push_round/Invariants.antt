use Rattle.std.proofs.Common.{◌≡◌, ◌++◌, map}
use Rattle.std.specs.Prelude.{flat_map}
use Rattle.coll_sched.specs.Families.{actions_at, members}
use Rattle.coll_plans.specs.Plans.{family}
use Rattle.coll_draw.specs.Drawings.{step_of}
use Rattle.coll_draw.proofs.plans.MemberPlans.push_round.Given as goal

abbrev pub invariant-loop-member : goal.invariant-loop-member
invariant-loop-member l =
    l.all.items ≡ l.initial.all.items
    ++ flat_map (λ r. map (step_of l.round r) (actions_at (family l.self.sig l.self.n) l.round r)) (members 0 l.member)
