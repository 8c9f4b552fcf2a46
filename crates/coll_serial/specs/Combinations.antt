-- Combinations outside an engine, by their stage.
use Rattle.std.specs.Prelude.{Bool, true, false, Option, Some, None}
use Rattle.coll_core.specs.Cores.{Parts}
use Rattle.coll_core.specs.Steps.{CommitsOwn, IsOut, Returns}
use Rattle.coll_core.specs.Works.{Piece}
use Rattle.coll_core.specs.declared.stepped.Stepped.{Stepped}
use Rattle.coll_serial.specs.declared.combination.Stage.{Stage}
use Rattle.coll_serial.specs.declared.combination.Stage.TheVariants.{Computed, Due}

-- the action and its operands
abbrev pub piece_of : Option Stage → Option Piece
piece_of None = None
piece_of (Some (Due work)) = Some work
piece_of (Some (Computed done)) = Some done.piece

abbrev pub is_due : Option Stage → Bool
is_due None = false
is_due (Some (Due work)) = true
is_due (Some (Computed done)) = false

abbrev pub is_computed : Option Stage → Bool
is_computed None = false
is_computed (Some (Due work)) = false
is_computed (Some (Computed done)) = true

-- the engine handed it out, and didn't take it back
abbrev pub IsOutside : Parts → Option Piece → Type 0
IsOutside p None = ⊥
IsOutside p (Some work) = IsOut p work

-- the same, and it is to be computed
abbrev pub IsHandedOut : Parts → Option Stage → Type 0
IsHandedOut p None = ⊥
IsHandedOut p (Some (Due work)) = IsOut p work
IsHandedOut p (Some (Computed done)) = ⊥

-- it comes back: undone, and its request is the first that is ready; or computed, and its request goes on with the result of its own operands
abbrev pub TakesBack : Parts → Parts → Option Stage → Type 0
TakesBack p r None = ⊥
TakesBack p r (Some (Due work)) = Returns p r work
TakesBack p r (Some (Computed done)) = (stepped : Stepped) × CommitsOwn p r done.piece stepped
