-- What ports wait for.
use Rattle.std.specs.Prelude.{◌≡◌, ◌↔◌, ◌≤◌, ℕ, All, Bool, true, List, Some, length, map, slice_get, vec_capacity}
use Rattle.coll_kinds.specs.declared.ticket.Ticket.{Ticket}
use Rattle.coll_traced.specs.Ranks.{IsIn}
use Rattle.coll_traced.specs.declared.port_wait.PortWait.{PortWait}
use Rattle.coll_traced.specs.declared.waiting.Waiting.{Waiting}
use Rattle.coll_traced.specs.declared.waiting.Waiting.TheVariants as waiting

-- what a port waits for
pub data WaitFor : Type 0 where
  Awake : WaitFor  -- nothing: it can make calls
  ForOne : (rank : ℕ) (ticket : Ticket) → WaitFor  -- until the request of the rank is Done
  ForAny : (rank : ℕ) (tickets : List Ticket) → WaitFor  -- until one of these requests of the rank is Done
  Ended : WaitFor  -- nothing any more: it makes no call

-- what is noted of how a port waits, with these tickets listed
abbrev pub wait_of : Waiting → List Ticket → WaitFor
wait_of waiting.Awake tickets = Awake
wait_of (waiting.ForOne rank ticket) tickets = ForOne rank ticket
wait_of (waiting.ForAny rank) tickets = ForAny rank tickets
wait_of waiting.Ended tickets = Ended

abbrev pub wait_in : PortWait → WaitFor
wait_in port = wait_of port.how port.tickets.items

-- the port waits for requests
abbrev pub IsForSome : WaitFor → Type 0
IsForSome Awake = ⊥
IsForSome (ForOne rank t) = Unit {0}
IsForSome (ForAny rank ts) = Unit {0}
IsForSome Ended = ⊥

-- the rank has a port, and that waits for requests
abbrev pub IsWaiting : List WaitFor → ℕ → Type 0
IsWaiting waits rank = (wait : WaitFor) × (slice_get waits rank ≡ Some wait) × IsForSome wait

-- just these ranks' ports wait for requests
abbrev pub AreWaiting : List WaitFor → ℕ → Type 0
AreWaiting waits ranks = (rank : ℕ) → IsIn ranks rank ↔ IsWaiting waits rank

-- whether the port is marked as stalled
abbrev pub mark_in : PortWait → Bool
mark_in port = port.is_stalled

-- the rank has a port, and that is marked
abbrev pub IsMarked : List WaitFor → List Bool → ℕ → Type 0
IsMarked waits marks rank = (wait : WaitFor) × (slice_get waits rank ≡ Some wait) × (slice_get marks rank ≡ Some true)

-- there is memory for the tickets of that many requests
abbrev pub IsRoomy : ℕ → PortWait → Type 0
IsRoomy slots port = slots ≤ vec_capacity port.tickets

-- there is memory for lists at each of at most 64 ports, and just these ranks' ports wait for requests
pub record IsKept (slots : ℕ) (ports : List PortWait) (ranks : ℕ) : Type 0 where
  pub roomy : All (IsRoomy slots) ports
  pub few : length ports ≤ 64
  pub waiting : AreWaiting (map wait_in ports) ranks

-- what the ports of an engine wait for
pub record Waiters : Type 0 where
  pub waits : List WaitFor  -- by rank
  pub marks : List Bool  -- which of them are marked as stalled
  pub slots : ℕ  -- for the tickets of so many requests there is memory at each
