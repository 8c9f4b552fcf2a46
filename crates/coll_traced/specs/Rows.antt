-- A worked engine of which the records of a port's answers are false: none of them is true of everything.
use Rattle.std.specs.Prelude.{ℕ, Bool, List, [], ◌∷◌, Option, Some, None}
use Rattle.coll_kinds.specs.declared.refusal.Refusal.{Refusal}
use Rattle.coll_kinds.specs.declared.refusal.Refusal.TheVariants.{TraceFull}
use Rattle.coll_kinds.specs.declared.ticket.Ticket.{Ticket}
use Rattle.coll_machine.specs.Common.{Start, Entry, Setting, State}
use Rattle.coll_core.specs.declared.outcome.Outcome.{Outcome}
use Rattle.coll_complete.specs.declared.any.Any.{Any}
use Rattle.coll_traced.specs.Closings.{IsObjected}
use Rattle.coll_traced.specs.Denials.{IsDenied}
use Rattle.coll_traced.specs.Moments.{IsMoment}
use Rattle.coll_traced.specs.Stalls.{WasStalledFor}
use Rattle.coll_traced.specs.Tests.{RefusesFree, RefusesList, RefusesOne, TestsAll, TestsAny, TestsOne, TestsSome}
use Rattle.coll_traced.specs.Waits.{WaitFor}

-- an engine of one rank without a communicator accepts no call
abbrev pub silent : Setting
silent = record { ranks = 1; groups = []; slots = 1; places = 1; wear = 1; starts = 1; trace = 2 }

-- at no moment of it a port has made an entry
abbrev pub HasNoEntry : Type 0
HasNoEntry = (entries : List Entry) (s : State) → IsMoment silent 1 entries s → ⊥

-- no ticket is tested
abbrev pub TestsNone : Type 0
TestsNone =
    ((rank : ℕ) (t : Ticket) (new : Option Ticket) (flag : Bool) (o : Option Outcome) (es : List Entry)
    → TestsOne silent 0 rank (Some t) new flag o es → ⊥)
    × ((rank : ℕ) (t : Ticket) (new : List (Option Ticket)) (any : Any) (es : List Entry)
    → TestsAny silent 0 rank (Some t ∷ []) new any es → ⊥)
    × ((rank : ℕ) (t : Ticket) (new : List (Option Ticket)) (was is : List (ℕ × Outcome)) (flag : Bool) (es : List Entry)
    → TestsAll silent 0 rank (Some t ∷ []) new was is flag es → ⊥)
    × ((rank : ℕ) (t : Ticket) (new : List (Option Ticket)) (was is : List (ℕ × Outcome)) (count : Option ℕ) (es : List Entry)
    → TestsSome silent 0 rank (Some t ∷ []) new was is count es → ⊥)

-- each test of a ticket is refused, and only as stale; that of a null request isn't
abbrev pub RefusesStale : Type 0
RefusesStale =
    ((rank : ℕ) (t : Ticket) → RefusesOne silent 0 rank (Some t) None → ⊥)
    × ((rank : ℕ) (why : Refusal) → RefusesOne silent 0 rank None (Some why) → ⊥)
    × ((rank : ℕ) (t : Ticket) → RefusesList silent 0 rank (Some t ∷ []) None → ⊥)
    × ((rank : ℕ) (why : Refusal) → RefusesList silent 0 rank (None ∷ []) (Some why) → ⊥)
    × ((rank : ℕ) (t : Ticket) → RefusesFree silent 0 rank (Some t) None → ⊥)

-- its trace isn't full, so a start isn't denied for that; and with the end of its port it can be closed
abbrev pub IsFreeAndIdle : Type 0
IsFreeAndIdle =
    ((rank : ℕ) (t : Ticket) (bytes : List ℕ) → IsDenied silent 0 (Start rank t bytes) TraceFull → ⊥)
    × ((why : Refusal) → IsObjected silent ((0, 0) ∷ []) why → ⊥)

-- no port of it was stalled, since it has no request that one could wait for
abbrev pub StallsNone : Type 0
StallsNone = (rank : ℕ) (wait : WaitFor) → WasStalledFor silent rank wait → ⊥

pub record AnswersCanBeWrong : Type 0 where
  pub has_no_entry : HasNoEntry
  pub tests_none : TestsNone
  pub refuses_stale : RefusesStale
  pub free_and_idle : IsFreeAndIdle
  pub stalls_none : StallsNone
