-- What functions answer to C, and what they leave.
use Rattle.std.specs.Prelude.{◌≡◌, ℕ, ℤ, pos, true, false, List, length, Option, Some, None}
use lib.IntN.{negsuc}
use Rattle.coll_kinds.specs.declared.refusal.Refusal.{Refusal}
use Rattle.coll_kinds.specs.Refusals.{number_of}
use Rattle.coll_kinds.specs.declared.ticket.Ticket.{Ticket}
use Rattle.coll_core.specs.declared.phase.Phase.{Phase}
use Rattle.coll_core.specs.declared.phase.Phase.TheVariants.{Done, Idle, Pending}
use Rattle.coll_core.specs.Cores.{Parts, seen, setting}
use Rattle.coll_complete.specs.Requests.{is_active, is_pending, left_of}
use Rattle.coll_serial.specs.Calls.{Completes, DeniesTest}
use Rattle.worzsunab.specs.declared.forms.Request.{Request}
use Rattle.worzsunab.specs.declared.reason.Reason.{Reason}
use Rattle.worzsunab.specs.Forms.{named_by, request_of}
use Rattle.worzsunab.specs.Reasons.{reason_of}

-- callers see the same of both
pub record IsSame (p r : Parts) : Type 0 where
  pub setting_is : setting r ≡ setting p
  pub seen_is : seen r ≡ seen p

-- one of three: the engine is closed; the call is refused, with nothing changed but the refusal that is noted; or it was
-- done
pub data Answers (old new : Option Parts) (had noted : Reason) (code : ℤ) (Kept : Type 0)
    (Why : Parts → Refusal → Type 0) (Done : Parts → Parts → Type 0) : Type 0 where
  closed : old ≡ None → new ≡ None → noted ≡ had → Kept → code ≡ pos 20 → Answers old new had noted code Kept Why Done
  refused : (p r : Parts) (why : Refusal) → old ≡ Some p → new ≡ Some r → IsSame p r → noted ≡ reason_of why → Kept
      → Why p why → code ≡ pos (number_of why) → Answers old new had noted code Kept Why Done
  done : (p r : Parts) → old ≡ Some p → new ≡ Some r → setting r ≡ setting p → noted ≡ had → Done p r → code ≡ pos 0
      → Answers old new had noted code Kept Why Done

abbrev pub phase_number : Phase → ℕ
phase_number Idle = 0
phase_number Pending = 1
phase_number Done = 2

-- the number is that of the phase
abbrev pub IsPhase : Option Phase → ℕ → Type 0
IsPhase None number = ⊥
IsPhase (Some phase) number = number ≡ phase_number phase

-- what was done to a request and to the caller's memory
pub record Tested (p r : Parts) (rank : ℕ) (was left : Option Ticket) (old new : List ℕ) (count : ℕ) : Type 0 where
  pub completes : Completes (setting p) (seen p) rank was old count new (seen r)
  pub left_is : left ≡ left_of (seen p) was

-- one of five: the engine is closed; the test is refused; the request isn't Done; it isn't active; or it was completed
pub data Tests (old new : Option Parts) (had noted : Reason) (code : ℤ) (rank : ℕ) (was left : Request)
    (before after : List ℕ) (counted count : ℕ) : Type 0 where
  closed : old ≡ None → new ≡ None → noted ≡ had → code ≡ pos 20 → left ≡ was → after ≡ before → count ≡ counted
      → Tests old new had noted code rank was left before after counted count
  refused : (p : Parts) (why : Refusal) → old ≡ Some p → new ≡ Some p → noted ≡ reason_of why
      → DeniesTest (setting p) (seen p) rank (named_by was) (length before) why → code ≡ pos (number_of why)
      → left ≡ was → after ≡ before → count ≡ counted → Tests old new had noted code rank was left before after counted count
  pending : (p : Parts) → old ≡ Some p → new ≡ Some p → noted ≡ had → is_pending (seen p) (named_by was) ≡ true
      → code ≡ negsuc 0 → left ≡ was → after ≡ before → count ≡ counted
      → Tests old new had noted code rank was left before after counted count
  inactive : (p : Parts) → old ≡ Some p → new ≡ Some p → noted ≡ had → is_active (seen p) (named_by was) ≡ false
      → code ≡ pos 0 → left ≡ was → after ≡ before → count ≡ 0
      → Tests old new had noted code rank was left before after counted count
  done : (p r : Parts) (rest : Option Ticket) → old ≡ Some p → new ≡ Some r → setting r ≡ setting p → noted ≡ had
      → Tested p r rank (named_by was) rest before after count → code ≡ pos 0 → left ≡ request_of rest
      → Tests old new had noted code rank was left before after counted count
