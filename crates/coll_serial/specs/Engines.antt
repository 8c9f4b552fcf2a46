-- What holds of an engine between its calls.
use Rattle.std.specs.Prelude.{◌≡◌, ℕ, List}
use Rattle.coll_core.specs.Cores.{Parts, seen, setting}
use Rattle.coll_serial.specs.Lengths.{AreMeasured}

-- its communicators are the core's, and it knows how long the outcome of each live request is
pub record IsEngine (core : Parts) (communicators : List (List ℕ)) (lengths : List ℕ) : Type 0 where
  pub groups_are : communicators ≡ (setting core).groups
  pub measured : AreMeasured (setting core) (seen core).state lengths
