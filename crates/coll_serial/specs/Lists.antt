-- What the calls over lists of requests do, and how they are refused.
use Rattle.std.specs.Prelude.{◌≡◌, ◌⊎◌, ◌≤◌, ◌+◌, ◌++◌, ℕ, Bool, true, false, List, [], ◌∷◌, drop, length, map, slice_get, slice_index, slice_set}
use Rattle.std.specs.Prelude.{take, Option, Some, None, is_some, if◌then◌else◌}
use Rattle.coll_kinds.specs.declared.refusal.Refusal.{Refusal}
use Rattle.coll_machine.specs.Common.{Runs, Setting, Machine, State}
use Rattle.coll_core.specs.declared.outcome.Outcome.{Outcome}
use Rattle.coll_complete.specs.Completing.{CompletesDone, completion_if}
use Rattle.coll_complete.specs.Requests.{is_done, left_of, list_refusal}
use Rattle.coll_complete.specs.Starting.{Begun, StartsAll}
use Rattle.coll_serial.specs.declared.first.First.{First}
use Rattle.coll_serial.specs.declared.first.First.TheVariants.{Undefined, Unfinished, At}
use Rattle.coll_serial.specs.declared.part.Part.{Part}
use Rattle.coll_serial.specs.declared.stopped.Stopped.{Stopped}
use Rattle.coll_serial.specs.Calls.{DeniesStart, IsShortAt}
use Rattle.coll_serial.specs.Lengths.{IsOutcomeLengthAt}
use Rattle.coll_serial.specs.Parts.{span_len, span_of, ticket_of, tickets_of}

-- ---- refusals

-- a part's request is Done, and its outcome has more bytes than its span
pub record IsShortIn (g : Setting) (m : Machine) (parts : List Part) (len : ℕ) (why : Refusal) : Type 0 where
  pub position : ℕ
  pub part : Part
  pub there : slice_get parts position ≡ Some part
  pub short : IsShortAt g m (ticket_of part) (span_len part len) why

-- a test of a list is refused as the machine refuses its first request that it refuses, or, where there is none, for want of room
abbrev pub DeniesTests : Setting → Machine → ℕ → List Part → ℕ → Refusal → Type 0
DeniesTests g m rank parts len why =
    (list_refusal g m.state rank (tickets_of parts) ≡ Some why)
    ⊎ ((list_refusal g m.state rank (tickets_of parts) ≡ None) × IsShortIn g m parts len why)

-- an outcome fits into the span
abbrev pub Fits : Setting → State → Part → ℕ → Type 0
Fits g s p len = (want : ℕ) → IsOutcomeLengthAt g s (ticket_of p) want → want ≤ span_len p len

-- that of each request that is Done
abbrev pub DoFit : Setting → Machine → List Part → ℕ → Type 0
DoFit g m parts len = (i : ℕ) (p : Part) → slice_get parts i ≡ Some p → is_done m (ticket_of p) ≡ true
    → Fits g m.state p len

-- ---- what is written

-- bytes stand in memory from a position on
abbrev pub written : ℕ → List ℕ → List ℕ → List ℕ
written at bytes memory = take at memory ++ (bytes ++ drop (at + length bytes) memory)

-- each outcome is written at the front of its part's span, in rising position
abbrev pub laid : List Part → List (ℕ × Outcome) → List ℕ → List ℕ
laid parts [] memory = memory
laid parts (out ∷ outs) memory =
    laid parts outs (written (slice_index (map (λ p. p.at) parts) out.0) out.1.bytes memory)

-- of the parts from one on, those that were completed, with the bytes of their outcomes
abbrev pub completed_from : ℕ → List Part → List (ℕ × ℕ)
completed_from i [] = []
completed_from i (p ∷ ps) = (if p.completed then (i, p.count) ∷ [] else []) ++ completed_from (i + 1) ps

abbrev pub counts_of : List (ℕ × Outcome) → List (ℕ × ℕ)
counts_of outs = map (λ out. (out.0, length out.1.bytes)) outs

abbrev pub spans_of : List Part → List (ℕ × ℕ)
spans_of parts = map (λ p. (p.at, p.room)) parts

-- ---- tests

-- all requests that are Done were completed, in rising position: what the parts and the memory were, and are
pub record CompletesParts (g : Setting) (rank : ℕ) (m n : Machine) (was is : List Part) (old new : List ℕ) : Type 0 where
  pub outcomes : List (ℕ × Outcome)
  pub completes : CompletesDone g rank (tickets_of was) m n outcomes
  pub memory : new ≡ laid was outcomes old
  pub told : completed_from 0 is ≡ counts_of outcomes
  pub requests : tickets_of is ≡ map (left_of m) (tickets_of was)
  pub spans : spans_of is ≡ spans_of was

abbrev pub written_if : ℕ → Option Outcome → List ℕ → List ℕ
written_if at None memory = memory
written_if at (Some o) memory = written at o.bytes memory

abbrev pub count_if : Option Outcome → ℕ
count_if None = 0
count_if (Some o) = length o.bytes

-- one request was completed, if it was Done
pub record CompletesPart (g : Setting) (rank : ℕ) (m n : Machine) (was is : Part) (old new : List ℕ) : Type 0 where
  pub outcome : Option Outcome
  pub done : is_some outcome ≡ is_done m (ticket_of was)
  pub runs : Runs g m (completion_if rank (ticket_of was) outcome) n
  pub memory : new ≡ written_if was.at outcome old
  pub completed : is.completed ≡ is_some outcome
  pub count_is : is.count ≡ count_if outcome
  pub request : ticket_of is ≡ left_of m (ticket_of was)
  pub at_is : is.at ≡ was.at
  pub room_is : is.room ≡ was.room

-- the one at a position was
pub record CompletesOne (g : Setting) (rank : ℕ) (m n : Machine) (position : ℕ) (was is : List Part) (old new : List ℕ)
    : Type 0 where
  pub part : Part
  pub after : Part
  pub there : slice_get was position ≡ Some part
  pub done : is_done m (ticket_of part) ≡ true
  pub completes : CompletesPart g rank m n part after old new
  pub others : is ≡ slice_set was position after

abbrev pub is_undefined : First → Bool
is_undefined Undefined = true
is_undefined Unfinished = false
is_undefined (At position) = false

abbrev pub position_of : First → Option ℕ
position_of Undefined = None
position_of Unfinished = None
position_of (At position) = Some position

-- ---- starts

-- the requests, and the bytes in memory that their starts are given
abbrev pub begun_of : List Part → List ℕ → List Begun
begun_of parts memory = map (λ p. (ticket_of p, span_of p memory)) parts

-- those before a position were started, and the start of the one there is refused
pub record IsStopped (g : Setting) (rank : ℕ) (m : Machine) (begun : List Begun) (n : Machine) (stopped : Stopped) : Type 0 where
  pub refused : Begun
  pub there : slice_get begun stopped.at ≡ Some refused
  pub before : StartsAll g rank m (take stopped.at begun) n
  pub denies : DeniesStart g rank n refused stopped.why
