use Rattle.std.proofs.Common.{ℕ, ◌++◌, ◌∷◌, [], List, take}
use Rattle.coll_cases.specs.Code.{HasList}
use Rattle.coll_cases.proofs.outcomes.with_and_without.Given as goal

abbrev pub invariant-loop-list : goal.invariant-loop-list
invariant-loop-list l = record {
  without : (qs : List ℕ) → HasList (take l.list-index l.lists) qs → HasList l.more.items qs;
  joined : (qs : List ℕ) → HasList (take l.list-index l.lists) qs → HasList l.more.items (qs ++ l.request ∷ []);
}
