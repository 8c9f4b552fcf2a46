-- Who goes on with what is ready.
use Rattle.std.proofs.Common.{◌≡◌, ◌↔◌, ℕ, Bool, true, List}
use Rattle.coll_traced.specs.Ranks.{AreBut, AreNone, IsIn}
use Rattle.coll_traced.specs.Traced.{Traced}
use Rattle.coll_traced.specs.Waits.{AreWaiting, IsWaiting, WaitFor}
use Rattle.coll_shared.specs.Successors.{IsSpinning, NoneSpins}

-- those that wait, but those that sleep, but those that compute
pub spinning_are : (t : Traced) (waiting awake spinning parked away : ℕ) → AreWaiting t.waits waiting → AreBut waiting parked awake
    → AreBut awake away spinning → (rank : ℕ) → IsIn spinning rank ↔ IsSpinning t parked away rank
spinning_are t waiting awake spinning parked away are first second rank = (
  (λ has.
      let of_awake : IsIn awake rank × (IsIn away rank → ⊥) = (second rank).0 has in
      let of_waiting : IsIn waiting rank × (IsIn parked rank → ⊥) = (first rank).0 of_awake.0 in
      ((are rank).0 of_waiting.0, of_waiting.1, of_awake.1)),
  (λ spins. (second rank).1 ((first rank).1 ((are rank).1 spins.0, spins.1), spins.2)),
)

-- none of them
pub none_spins : (t : Traced) (spinning parked away : ℕ) (none : Bool) → ((rank : ℕ) → IsIn spinning rank ↔ IsSpinning t parked away rank)
    → (none ≡ true) ↔ AreNone spinning → (none ≡ true) ↔ NoneSpins t parked away
none_spins t spinning parked away none are is = (
  (λ so rank spins. is.0 so rank ((are rank).1 spins)),
  (λ spins. is.1 (λ rank has. spins rank ((are rank).0 has))),
)
