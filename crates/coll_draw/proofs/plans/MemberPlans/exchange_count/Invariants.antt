use Rattle.std.proofs.Common.{◌≡◌, ◌≤◌, count_by}
use Rattle.coll_sched.specs.Families.{is_exchange, members}
use Rattle.coll_plans.specs.Plans.{family}
use Rattle.coll_draw.proofs.plans.MemberPlans.exchange_count.Given as goal

abbrev pub invariant-loop-round : goal.invariant-loop-round
invariant-loop-round l =
    (l.count ≡ count_by (is_exchange l.self.n (family l.self.sig l.self.n)) (members 0 l.round)) × (l.count ≤ l.round)
