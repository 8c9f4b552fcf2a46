-- What functions over lists of requests answer to C, and what they leave.
use Rattle.std.specs.Prelude.{◌≡◌, ◌⊎◌, ℕ, ℤ, pos, Bool, true, false, List, length, position, Option, Some, None}
use Rattle.std.specs.List.{list_any}
use lib.IntN.{negsuc}
use Rattle.coll_kinds.specs.declared.refusal.Refusal.{Refusal}
use Rattle.coll_kinds.specs.Refusals.{number_of}
use Rattle.coll_core.specs.Cores.{Parts, seen, setting}
use Rattle.coll_complete.specs.Completing.{done_positions}
use Rattle.coll_complete.specs.Requests.{AreDistinct, is_active, is_done, is_pending}
use Rattle.coll_complete.specs.Starting.{StartsAll}
use Rattle.coll_serial.specs.declared.part.Part.{Part}
use Rattle.coll_serial.specs.declared.stopped.Stopped.{Stopped}
use Rattle.coll_serial.specs.Lists.{CompletesOne, CompletesParts, DeniesTests, IsStopped, begun_of}
use Rattle.coll_serial.specs.Parts.{tickets_of}
use Rattle.worzsunab.specs.declared.reason.Reason.{Reason}
use Rattle.worzsunab.specs.Reasons.{reason_of}

-- WZ_UNDEFINED
abbrev pub undefined : ℕ
undefined = 18446744073709551615

abbrev pub told_of : Option ℕ → ℕ
told_of None = undefined
told_of (Some many) = many

-- one of five: a request stands twice; the engine is closed; the test is refused; it is to be called again after progress,
-- with nothing changed; or it was done
pub data ListTests (old new : Option Parts) (had noted : Reason) (code : ℤ) (rank : ℕ) (parts : List Part) (room : ℕ)
    (Kept : Type 0) (Waits : Parts → Type 0) (Done : Parts → Parts → Type 0) : Type 0 where
  twice : (AreDistinct (tickets_of parts) → ⊥) → new ≡ old → noted ≡ had → Kept → code ≡ pos 24
      → ListTests old new had noted code rank parts room Kept Waits Done
  closed : old ≡ None → new ≡ None → noted ≡ had → Kept → code ≡ pos 20
      → ListTests old new had noted code rank parts room Kept Waits Done
  refused : (p : Parts) (why : Refusal) → old ≡ Some p → new ≡ Some p → noted ≡ reason_of why → Kept
      → DeniesTests (setting p) (seen p) rank parts room why → code ≡ pos (number_of why)
      → ListTests old new had noted code rank parts room Kept Waits Done
  waits : (p : Parts) → old ≡ Some p → new ≡ Some p → noted ≡ had → Kept → Waits p → code ≡ negsuc 0
      → ListTests old new had noted code rank parts room Kept Waits Done
  done : (p r : Parts) → old ≡ Some p → new ≡ Some r → setting r ≡ setting p → noted ≡ had → Done p r → code ≡ pos 0
      → ListTests old new had noted code rank parts room Kept Waits Done

-- some are active, and none is Done
pub record NoneIsDone (rank : ℕ) (parts : List Part) (p : Parts) : Type 0 where
  pub active : list_any (is_active (seen p)) (tickets_of parts) ≡ true
  pub none : position (is_done (seen p)) (tickets_of parts) ≡ None

-- none is active, and nothing was done
pub record NoneIsActive (p r : Parts) (was is : List Part) (old new : List ℕ) (told : ℕ) : Type 0 where
  pub inactive : list_any (is_active (seen p)) (tickets_of was) ≡ false
  pub engine : r ≡ p
  pub parts : is ≡ was
  pub memory : new ≡ old
  pub told_is : told ≡ undefined

-- the lowest that is Done was completed
pub record CompletesLowest (rank : ℕ) (p r : Parts) (was is : List Part) (old new : List ℕ) (index : ℕ) : Type 0 where
  pub lowest : position (is_done (seen p)) (tickets_of was) ≡ Some index
  pub completes : CompletesOne (setting p) rank (seen p) (seen r) index was is old new

-- all that are Done were, that many
pub record CompletesSome (rank : ℕ) (p r : Parts) (was is : List Part) (old new : List ℕ) (many : ℕ) : Type 0 where
  pub active : list_any (is_active (seen p)) (tickets_of was) ≡ true
  pub many_is : many ≡ length (done_positions (seen p) (tickets_of was))
  pub completes : CompletesParts (setting p) rank (seen p) (seen r) was is old new

-- and none was Pending
pub record CompletesAll (rank : ℕ) (p r : Parts) (was is : List Part) (old new : List ℕ) : Type 0 where
  pub finished : list_any (is_pending (seen p)) (tickets_of was) ≡ false
  pub completes : CompletesParts (setting p) rank (seen p) (seen r) was is old new

-- starts: the engine is closed; one was refused, and those before it were started; or all were
pub data Starts (old new : Option Parts) (had noted : Reason) (code : ℤ) (rank : ℕ) (parts : List Part) (given : List ℕ)
    (was started : ℕ) : Type 0 where
  closed : old ≡ None → new ≡ None → noted ≡ had → started ≡ was → code ≡ pos 20
      → Starts old new had noted code rank parts given was started
  stopped : (p r : Parts) (s : Stopped) → old ≡ Some p → new ≡ Some r → setting r ≡ setting p → noted ≡ reason_of s.why
      → IsStopped (setting p) rank (seen p) (begun_of parts given) (seen r) s → started ≡ s.at
      → code ≡ pos (number_of s.why) → Starts old new had noted code rank parts given was started
  done : (p r : Parts) → old ≡ Some p → new ≡ Some r → setting r ≡ setting p → noted ≡ had
      → StartsAll (setting p) rank (seen p) (begun_of parts given) (seen r) → started ≡ length parts → code ≡ pos 0
      → Starts old new had noted code rank parts given was started
