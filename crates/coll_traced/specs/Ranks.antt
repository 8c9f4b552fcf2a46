-- A set of ranks, by the number whose bits they are.
use Rattle.std.specs.Prelude.{◌≡◌, ◌≢◌, ◌↔◌, ◌⊎◌, ◌<◌, ℕ}
use Rattle.std.specs.Int.{bit_at}

-- the rank is one of the set
abbrev pub IsIn : ℕ → ℕ → Type 0
IsIn ranks rank = bit_at ranks rank ≡ 1

-- the set has no rank
abbrev pub AreNone : ℕ → Type 0
AreNone ranks = (rank : ℕ) → IsIn ranks rank → ⊥

-- just those of the old set and the rank
abbrev pub AreWith : ℕ → ℕ → ℕ → Type 0
AreWith old rank new = (other : ℕ) → IsIn new other ↔ (IsIn old other ⊎ (other ≡ rank))

-- just those of the old set but the rank
abbrev pub AreWithout : ℕ → ℕ → ℕ → Type 0
AreWithout old rank new = (other : ℕ) → IsIn new other ↔ (IsIn old other × (other ≢ rank))

-- just those of the old set that are none of the others
abbrev pub AreBut : ℕ → ℕ → ℕ → Type 0
AreBut old others new = (rank : ℕ) → IsIn new rank ↔ (IsIn old rank × (IsIn others rank → ⊥))

-- the rank is in the set, and none below it is
pub record IsLowest (ranks rank : ℕ) : Type 0 where
  pub has : IsIn ranks rank
  pub below : (other : ℕ) → other < rank → IsIn ranks other → ⊥
