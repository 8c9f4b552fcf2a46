use Rattle.std.proofs.Common.{ℕ, Bool, take, filter}
use Rattle.coll_cases.specs.Code.{HasList}
use Rattle.coll_cases.proofs.outcomes.subsets.Given as goal

abbrev pub invariant-loop-request : goal.invariant-loop-request
invariant-loop-request l = (f : ℕ → Bool) → HasList l.lists.items (filter f (take l.request-index l.requests))
