-- When nothing can go on.
use Rattle.std.specs.Prelude.{◌≡◌, ◌↔◌, ◌<◌, ℕ, All, Any, Bool, List, Some, None, true, length, slice_get}
use Rattle.coll_kinds.specs.declared.ticket.Ticket.{Ticket}
use Rattle.coll_machine.specs.Common.{Retire, refusal, Setting, LegalTrace}
use Rattle.coll_core.specs.declared.phase.Phase.TheVariants.{Done, Pending}
use Rattle.coll_core.specs.Cores.{Parts, seen, setting}
use Rattle.coll_core.specs.Phases.{IsQuiet, phase_in}
use Rattle.coll_traced.specs.declared.port_wait.PortWait.{PortWait}
use Rattle.coll_traced.specs.Ranks.{IsIn}
use Rattle.coll_traced.specs.Waits.{WaitFor, Awake, ForOne, ForAny, Ended, IsWaiting, mark_in, wait_in}
use Rattle.coll_traced.specs.Traced.{Traced}

-- the ticket names a request of the rank that can be completed
abbrev pub IsDone : Parts → ℕ → Ticket → Type 0
IsDone p rank t = (refusal (setting p) (seen p).state (Retire rank t) ≡ None) × (phase_in (seen p) t ≡ Some Done)

-- the port is blocked in a wait, or has ended
abbrev pub IsBlocked : Parts → WaitFor → Type 0
IsBlocked p Awake = ⊥
IsBlocked p (ForOne rank t) = IsDone p rank t → ⊥
IsBlocked p (ForAny rank ts) = All (λ t. IsDone p rank t → ⊥) ts
IsBlocked p Ended = Unit {0}

-- no request is ready, no combination is handed out, and no port can go on
pub record IsStalled (t : Traced) : Type 0 where
  pub quiet : IsQuiet t.core
  pub blocked : All (IsBlocked t.core) t.waits

-- the ticket names a request of the rank that is Pending
abbrev pub IsPending : Parts → ℕ → Ticket → Type 0
IsPending p rank t = (refusal (setting p) (seen p).state (Retire rank t) ≡ None) × (phase_in (seen p) t ≡ Some Pending)

-- the port waits for a request of the rank that is Pending
abbrev pub IsHeldUp : Parts → WaitFor → Type 0
IsHeldUp p Awake = ⊥
IsHeldUp p (ForOne rank t) = IsPending p rank t
IsHeldUp p (ForAny rank ts) = Any (IsPending p rank) ts
IsHeldUp p Ended = ⊥

-- the port is marked just where it waits so
abbrev pub IsRightlyMarked : Parts → PortWait → Type 0
IsRightlyMarked p port = (mark_in port ≡ true) ↔ IsHeldUp p (wait_in port)

-- just the ports that wait so are marked
abbrev pub AreHeldUp : Parts → List WaitFor → List Bool → Type 0
AreHeldUp p waits marks =
    (rank : ℕ) (wait : WaitFor) → slice_get waits rank ≡ Some wait → (slice_get marks rank ≡ Some true) ↔ IsHeldUp p wait

-- the rank has a port, and that isn't blocked
abbrev pub IsFree : Parts → List PortWait → ℕ → Type 0
IsFree p ports rank = (port : PortWait) × (slice_get ports rank ≡ Some port) × (IsBlocked p (wait_in port) → ⊥)

-- of the first `n` ports those in the set that aren't blocked
abbrev pub AreFree : Parts → List PortWait → ℕ → ℕ → ℕ → Type 0
AreFree p ports waiting n ranks = (rank : ℕ) → IsIn ranks rank ↔ ((rank < n) × IsIn waiting rank × IsFree p ports rank)

-- the port of the rank waits for requests, and isn't blocked in that
pub record IsMet (p : Parts) (waits : List WaitFor) (rank : ℕ) : Type 0 where
  pub waiting : IsWaiting waits rank
  pub free : (wait : WaitFor) → slice_get waits rank ≡ Some wait → IsBlocked p wait → ⊥

-- just these ranks' ports wait so
abbrev pub AreMet : Parts → List WaitFor → ℕ → Type 0
AreMet p waits ranks = (rank : ℕ) → IsIn ranks rank ↔ IsMet p waits rank

-- an engine with that setting and a port for each rank, whose trace was legal, was stalled at some time, and there the rank's port waited so,
-- for a request that was Pending
pub record WasStalledFor (g : Setting) (rank : ℕ) (wait : WaitFor) : Type 0 where
  pub at : Traced
  pub setting_is : setting at.core ≡ g
  pub legal : LegalTrace g at.entries (seen at.core).state
  pub ports : length at.waits ≡ g.ranks
  pub waited_so : slice_get at.waits rank ≡ Some wait
  pub held_up : IsHeldUp at.core wait
  pub stalled : IsStalled at

-- the rank's port waited in it
abbrev pub WasStalled : Setting → ℕ → Type 0
WasStalled g rank = (wait : WaitFor) × WasStalledFor g rank wait

-- a port that is marked waits for what it waited for when nothing could go on
abbrev pub IsTold : Setting → List WaitFor → List Bool → ℕ → Type 0
IsTold g waits marks rank =
    (wait : WaitFor) → slice_get waits rank ≡ Some wait → slice_get marks rank ≡ Some true → WasStalledFor g rank wait

-- there is a port for each rank, and each mark is right
pub record AreTold (g : Setting) (waits : List WaitFor) (marks : List Bool) : Type 0 where
  pub ports : length waits ≡ g.ranks
  pub told : (rank : ℕ) → IsTold g waits marks rank
