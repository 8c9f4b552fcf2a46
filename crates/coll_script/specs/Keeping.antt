-- What the matching of places keeps while it goes over requests: for each place, the earliest request so far.
use Rattle.std.specs.Prelude.{◌≡◌, ℕ, ◌<◌, List, length, Some, slice_get}
use Rattle.coll_script.specs.declared.first.Earliest.{Earliest}
use Rattle.coll_script.specs.Matching.{earlier}

-- a list of the earliest after one more at a place
pub record IsKept (place : ℕ) (p : Earliest) (old new : List Earliest) : Type 0 where
  pub within : place < length new
  pub there : slice_get new place ≡ earlier (slice_get old place) (Some p)
  pub others : (k : ℕ) → (k ≡ place → ⊥) → slice_get new k ≡ slice_get old k
