-- Bytes that are copied without an engine: for one, or out of one.
use Rattle.std.specs.Prelude.{◌≡◌, ◌<◌, ℕ, ℤ, pos, true, false, List, [], length, Option, Some, None, is_some}
use lib.IntN.{negsuc}
use Rattle.coll_kinds.specs.declared.refusal.Refusal.{Refusal}
use Rattle.coll_kinds.specs.Refusals.{number_of}
use Rattle.coll_kinds.specs.declared.ticket.Ticket.{Ticket}
use Rattle.coll_core.specs.declared.outcome.Outcome.{Outcome}
use Rattle.coll_core.specs.Cores.{Parts, seen, setting}
use Rattle.coll_complete.specs.Requests.{is_active, is_pending, left_of}
use Rattle.coll_kinds.specs.declared.signature.Signature.{Signature}
use Rattle.coll_serial.specs.Calls.{Denies, DeniesStart, DeniesTest, Fills, Takes, post_by}
use Rattle.worzsunab.specs.declared.forms.Request.{Request}
use Rattle.worzsunab.specs.declared.handle.Handle.{Handle}
use Rattle.worzsunab.specs.declared.reason.Reason.{Reason}
use Rattle.worzsunab.specs.Answers.{Answers}
use Rattle.worzsunab.specs.Beginnings.{Posts, StartsOne}
use Rattle.worzsunab.specs.Forms.{IsMade, named_by, request_of}
use Rattle.worzsunab.specs.Reasons.{reason_of}

-- one of three: the handle has bytes already; memory was refused; or it has the bytes that were given
pub data Gives (old new : Option (List ℕ)) (code : ℤ) (given : List ℕ) : Type 0 where
  full : is_some old ≡ true → new ≡ old → code ≡ pos 27 → Gives old new code given
  refused : old ≡ None → new ≡ None → code ≡ pos 17 → Gives old new code given
  done : old ≡ None → new ≡ Some given → code ≡ pos 0 → Gives old new code given

-- one of three: the handle has none; there is room for fewer; or they stand at the front of the memory, and the handle has none
pub data CopiesOut (old new : Option (List ℕ)) (code : ℤ) (before after : List ℕ) (counted count : ℕ) : Type 0 where
  empty : old ≡ None → new ≡ None → code ≡ pos 26 → after ≡ before → count ≡ counted → CopiesOut old new code before after counted count
  short : (bytes : List ℕ) → old ≡ Some bytes → new ≡ old → length before < length bytes → code ≡ pos 4 → after ≡ before → count ≡ counted
      → CopiesOut old new code before after counted count
  done : (bytes : List ℕ) → old ≡ Some bytes → new ≡ None → Fills before after bytes → count ≡ length bytes → code ≡ pos 0
      → CopiesOut old new code before after counted count

-- what a post answers whose bytes a handle had: refused, the handle has them still; made, it has none
abbrev pub PostsGiven : (old new : Handle) (code : ℤ) (rank comm : ℕ) (sig : Signature) (bytes : List ℕ) (was is : Request) (left : Option (List ℕ)) → Type 0
PostsGiven old new code rank comm sig bytes was is left =
    Answers old.held.engine new.held.engine old.reason new.reason code ((is ≡ was) × (left ≡ Some bytes))
    (λ p. Denies (setting p) (seen p) (post_by (setting p) rank comm sig bytes)) (λ p r. IsMade (Posts p r rank comm sig bytes) is × (left ≡ None))

-- the same of a start
abbrev pub StartsGiven : (old new : Handle) (code : ℤ) (rank : ℕ) (named : Option Ticket) (bytes : List ℕ) (left : Option (List ℕ)) → Type 0
StartsGiven old new code rank named bytes left =
    Answers old.held.engine new.held.engine old.reason new.reason code (left ≡ Some bytes)
    (λ p. DeniesStart (setting p) rank (seen p) (named, bytes)) (λ p r. StartsOne p r rank named bytes × (left ≡ None))

-- the outcome that was taken out is that of the request, which was completed
pub record Took (p r : Parts) (rank : ℕ) (was left : Option Ticket) (room : ℕ) (bytes : List ℕ) : Type 0 where
  pub outcome : Outcome
  pub takes : Takes (setting p) (seen p) rank was room outcome (seen r)
  pub bytes_are : bytes ≡ outcome.bytes
  pub left_is : left ≡ left_of (seen p) was

-- one of six: the handle has no bytes, whose place an outcome could take; the engine is closed; the test is refused; the request
-- isn't Done; it isn't active, and the handle has the bytes of nothing; or it was completed, and the handle has those of its outcome
pub data TakesOutcome (old new : Option Parts) (had noted : Reason) (code : ℤ) (rank : ℕ) (was left : Request) (room : ℕ)
    (before after : Option (List ℕ)) : Type 0 where
  empty : before ≡ None → new ≡ old → noted ≡ had → code ≡ pos 26 → left ≡ was → after ≡ before
      → TakesOutcome old new had noted code rank was left room before after
  closed : old ≡ None → new ≡ None → noted ≡ had → code ≡ pos 20 → left ≡ was → after ≡ before
      → TakesOutcome old new had noted code rank was left room before after
  refused : (p : Parts) (why : Refusal) → old ≡ Some p → new ≡ Some p → noted ≡ reason_of why
      → DeniesTest (setting p) (seen p) rank (named_by was) room why → code ≡ pos (number_of why) → left ≡ was → after ≡ before
      → TakesOutcome old new had noted code rank was left room before after
  pending : (p : Parts) → old ≡ Some p → new ≡ Some p → noted ≡ had → is_pending (seen p) (named_by was) ≡ true
      → code ≡ negsuc 0 → left ≡ was → after ≡ before → TakesOutcome old new had noted code rank was left room before after
  inactive : (p : Parts) → old ≡ Some p → new ≡ Some p → noted ≡ had → is_active (seen p) (named_by was) ≡ false
      → code ≡ pos 0 → left ≡ was → after ≡ Some [] → TakesOutcome old new had noted code rank was left room before after
  done : (p r : Parts) (rest : Option Ticket) (bytes : List ℕ) → old ≡ Some p → new ≡ Some r → setting r ≡ setting p → noted ≡ had
      → Took p r rank (named_by was) rest room bytes → code ≡ pos 0 → left ≡ request_of rest → after ≡ Some bytes
      → TakesOutcome old new had noted code rank was left room before after
