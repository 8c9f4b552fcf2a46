-- The actions that live requests have still to do.
use Rattle.std.specs.Prelude.{ℕ, Option, Some, None, if◌then◌else◌}
use Rattle.coll_sched.specs.Points.{remaining}
use Rattle.coll_plans.specs.Plans.{family}
use Rattle.coll_arena.specs.Totals.{sum_to}
use Rattle.coll_refinement.specs.Requests.{Live}
use Rattle.coll_refinement.specs.Tables.{Tables}

-- of one request: an inactive one has none
abbrev pub left_of : Live → ℕ
left_of q = if q.active then remaining (family q.sig q.members q.member) q.round q.index else 0

abbrev pub left_by : Option Live → ℕ
left_by None = 0
left_by (Some q) = left_of q

-- of all
abbrev pub actions_left : Tables → ℕ
actions_left v = sum_to (λ i. left_by (v.request i)) v.setting.slots
