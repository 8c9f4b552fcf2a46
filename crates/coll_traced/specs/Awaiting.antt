-- What is noted for a port that waits, and what a wait may be given up for.
use Rattle.std.specs.Prelude.{◌≡◌, ◌⊎◌, ℕ, List, Contains, filter_map, Option, None, Some, position, slice_get, slice_set, true}
use Rattle.std.specs.List.{list_any}
use Rattle.coll_kinds.specs.declared.refusal.Refusal.{Refusal}
use Rattle.coll_kinds.specs.declared.refusal.Refusal.TheVariants.{NoMemory, Stale, Stalled}
use Rattle.coll_kinds.specs.declared.ticket.Ticket.{Ticket}
use Rattle.coll_machine.specs.Common.{Setting, Machine}
use Rattle.coll_core.specs.declared.phase.Phase.TheVariants.{Pending}
use Rattle.coll_core.specs.Cores.{Parts}
use Rattle.coll_core.specs.Phases.{phase_in}
use Rattle.coll_complete.specs.Requests.{is_active, is_done}
use Rattle.coll_traced.specs.Waits.{WaitFor, Awake, ForOne, ForAny, Ended}
use Rattle.coll_traced.specs.Stalls.{IsDone, IsPending, WasStalled}
use Rattle.coll_traced.specs.declared.awaited.Awaited.{Awaited}
use Rattle.coll_traced.specs.declared.awaited.Awaited.TheVariants as awaited

-- why a progress thread ends before it is stopped: a step or a combination was refused memory, or a result that it made
-- isn't wanted any longer
abbrev pub IsSetback : Refusal → Type 0
IsSetback why = (why ≡ NoMemory) ⊎ (why ≡ Stale)

-- why a wait of the rank's port is given up whose requests aren't refused: the engine was stalled while that port waited; its list names a
-- request twice, and memory to note that was refused; or as a progress thread
abbrev pub IsHindrance : Setting → ℕ → Refusal → Type 0
IsHindrance g rank why = ((why ≡ Stalled) × WasStalled g rank) ⊎ IsSetback why

-- the tickets of a list's requests that aren't null, in their order
abbrev pub tickets_in : List (Option Ticket) → List Ticket
tickets_in list = filter_map (λ request. request) list

-- one of the requests has the ticket
abbrev pub IsListed : List (Option Ticket) → Ticket → Type 0
IsListed list t = Contains list (Some t)

-- the port waits for one request of the list, which is Pending
pub record IsForOneOf (m : Machine) (rank : ℕ) (list : List (Option Ticket)) (wait : WaitFor) : Type 0 where
  pub ticket : Ticket
  pub is_for : wait ≡ ForOne rank ticket
  pub listed : IsListed list ticket
  pub pending : phase_in m ticket ≡ Some Pending

-- the port waits for what has to be before what it awaits is the case
abbrev pub IsWaitFor : Machine → ℕ → Awaited → WaitFor → Type 0
IsWaitFor m rank (awaited.One request) wait = (t : Ticket) × (request.now ≡ Some t) × (wait ≡ ForOne rank t)
IsWaitFor m rank (awaited.Any requests) wait = wait ≡ ForAny rank (tickets_in requests.now)
IsWaitFor m rank (awaited.All requests) wait = IsForOneOf m rank requests.now wait

-- none of the requests of a list is one of the rank that is Pending
abbrev pub NoneIsPending : Parts → ℕ → List (Option Ticket) → Type 0
NoneIsPending p rank list = (t : Ticket) → IsListed list t → IsPending p rank t → ⊥

-- the port needn't wait: there is no request; or it awaits all of a list, of which none is Pending
abbrev pub NeedsNoWait : Parts → ℕ → Awaited → Type 0
NeedsNoWait p rank (awaited.One request) = request.now ≡ None
NeedsNoWait p rank (awaited.Any requests) = ⊥
NeedsNoWait p rank (awaited.All requests) = NoneIsPending p rank requests.now

-- of all waits only the port's is made anew, for what it awaits
pub record WaitsFor (m : Machine) (rank : ℕ) (wanted : Awaited) (old new : List WaitFor) : Type 0 where
  pub wait : WaitFor
  pub is_for : IsWaitFor m rank wanted wait
  pub waits_are : new ≡ slice_set old rank wait

-- of a list's requests some are active, and none is Done
pub record IsUnfinished (m : Machine) (list : List (Option Ticket)) : Type 0 where
  pub active : list_any (is_active m) list ≡ true
  pub none_done : position (is_done m) list ≡ None

-- the request that is waited for, where it is just one
abbrev pub one_by : Option WaitFor → Option Ticket
one_by None = None
one_by (Some Awake) = None
one_by (Some (ForOne rank t)) = Some t
one_by (Some (ForAny rank ts)) = None
one_by (Some Ended) = None

-- the request that the rank's port waits for, where it is just one
abbrev pub one_in : List WaitFor → ℕ → Option Ticket
one_in waits rank = one_by (slice_get waits rank)

-- where the rank's port waits for just one request, that can't be completed
abbrev pub IsUnmet : Parts → List WaitFor → ℕ → Type 0
IsUnmet p waits rank = (t : Ticket) → one_in waits rank ≡ Some t → IsDone p rank t → ⊥
