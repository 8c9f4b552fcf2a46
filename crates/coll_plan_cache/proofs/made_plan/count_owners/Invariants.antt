use Rattle.std.proofs.Common.{◌≡◌, All}
use Rattle.coll_plan_cache.proofs.made_plan.count_owners.Given as goal

abbrev pub invariant-loop-owner : goal.invariant-loop-owner
invariant-loop-owner l = All (λ owner. owner ≡ l.plan) l.owners.items
