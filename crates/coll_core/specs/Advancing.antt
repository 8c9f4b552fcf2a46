-- A request that goes on from one list to another.
use Rattle.std.specs.Prelude.{◌≡◌, ◌≢◌, ◌<◌, ◌≤◌, ◌⊎◌, ℕ, suc, Bool, true, false, length, Some, None}
use Rattle.coll_kinds.specs.declared.ticket.Ticket.{Ticket}
use Rattle.coll_lists.specs.Moves.{moved_back}
use Rattle.coll_sched.specs.Common.{Over, Progress}
use Rattle.coll_arena.specs.declared.list_name.ListName.{ListName}
use Rattle.coll_arena.specs.declared.list_name.ListName.TheVariants.{Free, Worn, Ready, Running, Idle, Queue, Done}
use Rattle.coll_arena.specs.ListNames.{number_of}
use Rattle.coll_arena.specs.Lookups.{PutsSlot}
use Rattle.coll_arena.specs.Slots.{Slots, home, names, record_in, weight_of}
use Rattle.coll_machine.specs.declared.key.Key.{Key}
use Rattle.coll_match.specs.Instances.{mail, seats}
use Rattle.coll_refinement.specs.Engines.{IsCalled}
use Rattle.coll_refinement.specs.Requests.{advanced, key}
use Rattle.coll_refinement.specs.Shown.{Instances}
use Rattle.coll_refinement.specs.Sound.{Stands}
use Rattle.coll_core.specs.declared.request.Request.{Request}
use Rattle.coll_core.specs.declared.sent.Sent.{Sent}
use Rattle.coll_core.specs.Steps.{placed}
use Rattle.coll_core.specs.Requests.{CanReceive, IsListOf, next_of, schedule, shown}

-- the ticket names a request that has a next action
pub record CanAdvance (a : Slots Request) (t : Ticket) : Type 0 where
  pub request : Request
  pub live : names a t ≡ true
  pub here : record_in a t.slot ≡ Some request
  pub comm_in : request.comm < a.comms
  pub round_in : request.round ≤ length (schedule (shown request)).rounds
  pub some : next_of (shown request) ≢ None

-- a list of requests that are Done
abbrev pub is_end : ListName → Bool
is_end Free = false
is_end Worn = false
is_end Ready = false
is_end Running = false
is_end (Idle comm) = false
is_end (Queue comm) = false
is_end (Done comm) = true

-- it is one action on, on the list where its next one puts it
pub record HasAdvanced (a b : Slots Request) (n : Instances) (t : Ticket) (finished : Bool) : Type 0 where
  pub from : Request
  pub to : Request
  pub point : Progress
  pub list : ListName
  pub here : record_in a t.slot ≡ Some from
  pub puts : PutsSlot a b t.slot t.generation (weight_of a t.slot) (Some to) (number_of list)
  -- a request that is on its list already keeps its place there
  pub stays : home a t.slot ≡ number_of list → b.lists ≡ a.lists
  pub placed_is : b.lists ≡ placed t.slot (number_of list) a.lists
  pub is : shown to ≡ advanced (shown from) point
  pub buf : point.buf ≡ from.buffer
  pub over : Over (schedule (shown from)) from.round (suc from.index) point.round point.index
  pub stands : Stands from.plan.n (mail n (key (shown from))) (number_of list) (shown to)
  pub onto : IsListOf from.comm list
  pub finished_is : finished ≡ is_end list

-- each request's communicator has lists
abbrev pub HaveLists : Slots Request → Type 0
HaveLists a = (slot : ℕ) (r : Request) → record_in a slot ≡ Some r → r.comm < a.comms

-- the message stands
abbrev pub IsSent : Instances → Sent → Type 0
IsSent n sent = mail n sent.key sent.from sent.to sent.round ≢ None

-- the ticket is that of a member's request, which waits for a message that is there
pub record IsReceiver (a : Slots Request) (n : Instances) (k : Key) (to : ℕ) (t : Ticket) : Type 0 where
  pub request : Request
  pub seat : seats n k to ≡ Some t.slot
  pub live : names a t ≡ true
  pub here : record_in a t.slot ≡ Some request
  pub waits : home a t.slot ≡ number_of (Queue request.comm)
  pub can_receive : CanReceive (mail n (key (shown request))) (shown request)

-- nothing changes, or the slot that is noted for a member goes from its Queue to the back of Ready
pub record Moved (a b : Slots Request) (n : Instances) (k : Key) (to slot : ℕ) : Type 0 where
  pub request : Request
  pub seat : seats n k to ≡ Some slot
  pub here : record_in a slot ≡ Some request
  pub waits : home a slot ≡ number_of (Queue request.comm)
  pub records_are : b.records ≡ a.records
  pub lists_is : b.lists ≡ moved_back slot (number_of Ready) a.lists

abbrev pub Brings : Slots Request → Slots Request → Instances → Key → ℕ → Type 0
Brings a b n k to = (b ≡ a) ⊎ ((slot : ℕ) × Moved a b n k to slot)

abbrev pub NoReceiver : Slots Request → Instances → Key → ℕ → Type 0
NoReceiver a n k to = (slot : ℕ) (r : Request) → IsCalled shown a n k to slot r → ⊥
