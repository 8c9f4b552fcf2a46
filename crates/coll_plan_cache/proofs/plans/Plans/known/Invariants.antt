use Rattle.std.proofs.Common.{◌≡◌, ◌<◌, ℕ, slice_index_or}
use Rattle.coll_plans.specs.Plans.{Planned}
use Rattle.coll_plan_cache.specs.Kept.{the_plan}
use Rattle.coll_plan_cache.proofs.plans.Plans.known.Given as goal

abbrev pub invariant-loop-made : goal.invariant-loop-made
invariant-loop-made l = (k : ℕ) (d : Planned) → k < l.made-index → slice_index_or l.made-items k d ≡ the_plan l.sig l.n l.member → ⊥
