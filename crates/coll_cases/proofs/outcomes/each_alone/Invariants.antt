use Rattle.std.proofs.Common.{◌≡◌, ◌∷◌, [], ℕ, true, take}
use Rattle.coll_kinds.specs.Common.{is_among}
use Rattle.coll_cases.specs.Code.{HasList}
use Rattle.coll_cases.proofs.outcomes.each_alone.Given as goal

abbrev pub invariant-loop-request : goal.invariant-loop-request
invariant-loop-request l = (q : ℕ) → is_among q (take l.request-index l.requests) ≡ true → HasList l.lists.items (q ∷ [])
