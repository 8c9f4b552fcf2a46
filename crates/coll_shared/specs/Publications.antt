-- What a port publishes, and what the combiner makes of it.
use Rattle.std.specs.Prelude.{◌≡◌, ◌<◌, ◌+◌, ◌++◌, ◌⊎◌, ℕ, List, [], ◌∷◌, None, Some, length, slice_get, slice_set}
use Rattle.coll_kinds.specs.declared.ticket.Ticket.{Ticket}
use Rattle.coll_machine.specs.Common.{Retire, Entry, refusal, Setting}
use Rattle.coll_core.specs.declared.phase.Phase.TheVariants.{Pending}
use Rattle.coll_core.specs.Cores.{Parts, seen, setting}
use Rattle.coll_core.specs.Phases.{phase_in}
use Rattle.coll_traced.specs.Calls.{IsPosted, IsStarted}
use Rattle.coll_traced.specs.Operations.{IsMade, IsRefused}
use Rattle.coll_traced.specs.Waits.{WaitFor, Awake, ForOne}
use Rattle.coll_shared.specs.declared.publication.Content.{Content}
use Rattle.coll_shared.specs.declared.publication.Content.TheVariants as content
use Rattle.coll_shared.specs.declared.publication.Expected.{Expected}
use Rattle.coll_shared.specs.declared.publication.Expected.TheVariants as expected

-- the entry is of the post or start that the port expects, for this request
abbrev pub IsExpected : ℕ → Expected → Ticket → Entry → Type 0
IsExpected rank (expected.Post comm sig bytes) t e = IsPosted rank (Some t) comm sig.now bytes.now e
IsExpected rank (expected.Start ticket bytes) t e = (t ≡ ticket) × IsStarted rank (Some ticket) bytes.now e

-- no entry was appended
pub record AddsNone (made now : ℕ) (es fs : List Entry) : Type 0 where
  pub entries_are : fs ≡ es
  pub counted : now ≡ made

-- just this entry was appended, and counted
pub record Adds (e : Entry) (made now : ℕ) (es fs : List Entry) : Type 0 where
  pub entries_are : fs ≡ es ++ e ∷ []
  pub counted : now ≡ made + 1

-- what a wait became: it is still one, or the request was completed for the rank, or the port is to look
abbrev pub IsAnswered : {L : Type 0} → ℕ → Content L → ℕ → List Entry → Content L → ℕ → List Entry → Type 0
IsAnswered rank (content.Wait t) made es (content.Completed c) now fs = (c.rank ≡ rank) × Adds c.entry made now es fs
IsAnswered rank (content.Wait t) made es content.Look now fs = AddsNone made now es fs
IsAnswered rank old made es new now fs = (new ≡ old) × AddsNone made now es fs

-- what an operation became: it was made, with just its entry, or it was denied; and of a wait what `IsAnswered` says
abbrev pub IsServed : {L : Type 0} → Setting → ℕ → Content L → ℕ → List Entry → Content L → ℕ → List Entry → Type 0
IsServed g rank (content.Operation operation) made es (content.Made t e) now fs = IsMade operation rank t e × Adds e made now es fs
IsServed g rank (content.Operation operation) made es content.Look now fs = IsRefused g made operation rank × AddsNone made now es fs
IsServed g rank (content.Operation operation) made es new now fs = ⊥
IsServed g rank old made es new now fs = IsAnswered rank old made es new now fs

-- the rank's port waits for nothing
abbrev pub IsAwake : ℕ → List WaitFor → Type 0
IsAwake rank waits = rank < length waits → slice_get waits rank ≡ Some Awake

-- of all waits only the rank's is made anew, and is for the request that its port published
abbrev pub IsRegistered : {L : Type 0} → ℕ → Content L → List WaitFor → List WaitFor → Type 0
IsRegistered rank (content.Wait t) old new = new ≡ slice_set old rank (ForOne rank t)
IsRegistered rank other old new = ⊥

-- the ticket names a request of the rank that isn't finished
abbrev pub IsPending : Parts → ℕ → Ticket → Type 0
IsPending p rank t = (refusal (setting p) (seen p).state (Retire rank t) ≡ None) × (phase_in (seen p) t ≡ Some Pending)

-- the port still waits for its request, since that isn't finished
abbrev pub IsWait : {L : Type 0} → Parts → ℕ → Content L → Type 0
IsWait p rank (content.Wait t) = IsPending p rank t
IsWait p rank other = ⊥

-- a record without an answer changes no wait, or just registers its port's for a request that isn't finished
abbrev pub IsUnanswered : Parts → ℕ → List WaitFor → List WaitFor → Type 0
IsUnanswered p rank old new = (new ≡ old) ⊎ ((t : Ticket) × (new ≡ slice_set old rank (ForOne rank t)) × IsPending p rank t)
