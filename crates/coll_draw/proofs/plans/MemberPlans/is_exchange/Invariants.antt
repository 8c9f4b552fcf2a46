use Rattle.std.proofs.Common.{◌≡◌}
use Rattle.std.specs.List.{list_any}
use Rattle.coll_sched.specs.Common.{actions_at, members, has_peer}
use Rattle.coll_plans.specs.Plans.{family}
use Rattle.coll_draw.proofs.plans.MemberPlans.is_exchange.Given as goal

abbrev pub invariant-loop-member : goal.invariant-loop-member
invariant-loop-member l =
    l.found ≡ list_any (λ r. list_any has_peer (actions_at (family l.self.sig l.self.n) l.round r)) (members 0 l.member)
