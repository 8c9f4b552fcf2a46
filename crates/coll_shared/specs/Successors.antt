-- Who goes on with what is ready once the lock is free.
use Rattle.std.specs.Prelude.{◌≡◌, ◌<◌, ◌⊎◌, ℕ, length}
use Rattle.coll_core.specs.Steps.{ready}
use Rattle.coll_traced.specs.Ranks.{AreNone, IsIn, IsLowest}
use Rattle.coll_traced.specs.Traced.{Traced}
use Rattle.coll_traced.specs.Waits.{IsWaiting}
use Rattle.coll_shared.specs.declared.locked.Successor.{Successor}
use Rattle.coll_shared.specs.declared.locked.Successor.TheVariants.{NotNeeded, Worker, Port, Nobody}

-- the rank's port waits, and neither sleeps nor computes, so it takes the lock by itself
abbrev pub IsSpinning : Traced → ℕ → ℕ → ℕ → Type 0
IsSpinning t parked away rank = IsWaiting t.waits rank × (IsIn parked rank → ⊥) × (IsIn away rank → ⊥)

abbrev pub NoneSpins : Traced → ℕ → ℕ → Type 0
NoneSpins t parked away = (rank : ℕ) → IsSpinning t parked away rank → ⊥

-- something is ready, and no port will take the lock by itself
abbrev pub IsLeft : Traced → ℕ → ℕ → Type 0
IsLeft t parked away = (0 < length (ready t.core)) × NoneSpins t parked away

-- an idle progress thread goes on, else the lowest port that sleeps
abbrev pub IsSuccessor : Traced → ℕ → ℕ → ℕ → Successor → Type 0
IsSuccessor t parked away idle NotNeeded = IsLeft t parked away → ⊥
IsSuccessor t parked away idle Worker = IsLeft t parked away × (0 < idle)
IsSuccessor t parked away idle (Port rank) = IsLeft t parked away × (idle ≡ 0) × IsLowest parked rank
IsSuccessor t parked away idle Nobody = IsLeft t parked away × (idle ≡ 0) × AreNone parked
