-- What the functions over combinations do.
use Rattle.std.specs.Prelude.{◌≡◌, ℤ, pos, false, Option, Some, None}
use Rattle.coll_serial.specs.declared.combination.Stage.{Stage}
use Rattle.coll_serial.specs.Combinations.{is_due, piece_of}

-- one of three: there is none; memory was refused, and it is as it was; or it has its result
pub data Computes (old new : Option (Option Stage)) (code : ℤ) : Type 0 where
  empty : old ≡ None → new ≡ None → code ≡ pos 22 → Computes old new code
  refused : new ≡ old → code ≡ pos 17 → Computes old new code
  done : (was is : Option Stage) → old ≡ Some was → new ≡ Some is → piece_of is ≡ piece_of was → is_due is ≡ false
      → code ≡ pos 0 → Computes old new code
