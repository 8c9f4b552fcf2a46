-- Which ports sleep, and which of them are to be woken. Sets of ranks are numbers.
use Rattle.std.specs.Prelude.{◌⊎◌, ◌<◌, ℕ}
use Rattle.coll_traced.specs.Ranks.{IsIn}
use Rattle.coll_traced.specs.Traced.{Traced}
use Rattle.coll_traced.specs.Waits.{IsMarked}

-- a port is taken from those that sleep only to be woken, and what is to be woken stays so
pub record Wakes (parked wake parked_after wake_after : ℕ) : Type 0 where
  pub woken : (rank : ℕ) → IsIn parked rank → IsIn parked_after rank ⊎ IsIn wake_after rank
  pub kept : (rank : ℕ) → IsIn wake rank → IsIn wake_after rank
  pub fewer : (rank : ℕ) → IsIn parked_after rank → IsIn parked rank

-- of the first `n` ports those that are marked, and weren't before, don't sleep any longer
abbrev pub AreCalled : ℕ → Traced → Traced → ℕ → Type 0
AreCalled n old new parked =
    (rank : ℕ) → rank < n → rank < 64 → IsMarked new.waits new.stalled rank
    → IsMarked old.waits old.stalled rank ⊎ (IsIn parked rank → ⊥)
