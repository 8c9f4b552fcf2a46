use Rattle.std.proofs.Common.{◌≡◌}
use Rattle.coll_plan_cache.proofs.plans.lent_by.Given as goal

abbrev pub invariant-loop-made : goal.invariant-loop-made
invariant-loop-made l = l.made-items ≡ l.fn.plans
