-- What holds of an engine whenever no call is under way, in the words of the machine and of the lists.
use Rattle.std.specs.Prelude.{◌≡◌, ◌<◌, ℕ, true, length, slice_get, Some, None}
use Rattle.coll_kinds.specs.declared.datatype.Datatype.{Datatype}
use Rattle.coll_kinds.specs.declared.operation.Op.{Op}
use Rattle.coll_kinds.specs.declared.signature.Signature.{Signature}
use Rattle.coll_ops.specs.Values.{value}
use Rattle.coll_sched.specs.declared.action.Action.{Action}
use Rattle.coll_sched.specs.declared.action.Action.TheVariants.{Combine, Recv}
use Rattle.coll_sched.specs.declared.region.Region.{Region}
use Rattle.coll_sched.specs.Regions.{read_of}
use Rattle.coll_arena.specs.declared.list_name.ListName.TheVariants.{Ready, Running, Queue, Done}
use Rattle.coll_arena.specs.Homes.{StandsAtHome}
use Rattle.coll_arena.specs.ListNames.{number_of}
use Rattle.coll_arena.specs.Slots.{home, lent, record_in}
use Rattle.coll_match.specs.Instances.{mail}
use Rattle.coll_machine.specs.Common.{lent_bytes, size, key_of, signature_of, IsReady, filled}
use Rattle.coll_machine.specs.States.{Request as Asked}
use Rattle.coll_refinement.specs.FreeLocks.{LiesBy}
use Rattle.coll_refinement.specs.Requests.{key}
use Rattle.coll_refinement.specs.Sound.{Doable, Lies}
use Rattle.coll_core.specs.declared.request.Request.{Request}
use Rattle.coll_core.specs.Cores.{Parts, seen, setting}
use Rattle.coll_core.specs.Requests.{next_of, schedule, shown}

-- whoever a Done request's value rests on has given to its start, and its buffer has that value
pub record HoldsValue (p : Parts) (slot : ℕ) (q : Asked) : Type 0 where
  pub start : ℕ
  pub sig : Signature
  pub request : Request
  pub ready : IsReady (setting p) (seen p).state q start sig
  pub here : record_in p.arena slot ≡ Some request
  pub value_is : read_of request.buffer (schedule (shown request)).output
      ≡ value sig (filled sig (size (setting p) q.comm) ((seen p).state.given (key_of q start))) q.member

-- what the list of a request says of its schedule: which action is the next one, and whether that can be done
pub record Waits (p : Parts) (slot : ℕ) (r : Request) : Type 0 where
  pub ready : home p.arena slot ≡ number_of Ready
      → (a : Action) × (next_of (shown r) ≡ Some a) × Doable (mail p.matches (key (shown r))) (shown r) a
  pub running : home p.arena slot ≡ number_of Running
      → (op : Op) × (ty : Datatype) × (left : Region) × (right : Region) × (into : Region)
      × (next_of (shown r) ≡ Some (Combine op ty left right into))
  pub queued : home p.arena slot ≡ number_of (Queue r.comm)
      → (of : ℕ) × (into : Region)
      × (next_of (shown r) ≡ Some (Recv of into)) × (mail p.matches (key (shown r)) of r.plan.member r.round ≡ None)
  pub done : home p.arena slot ≡ number_of (Done r.comm) → r.round ≡ length (schedule (shown r)).rounds

pub record BetweenCalls (p : Parts) : Type 0 where
  -- each slot stands once on the list that is its home, and on no other: for a request that which its phase names, else
  -- that of its age; since its list shows Done and Idle, what ties a phase to what was given are `held` and `waits`
  pub once : (slot list : ℕ) → list < length p.arena.lists → StandsAtHome p.arena slot list
  pub lists : (slot : ℕ) (q : Asked) → (seen p).state.request slot ≡ Some q
      → LiesBy q.active ((seen p).done slot) q.comm (home p.arena slot)
  pub spare : (slot : ℕ) → slot < (setting p).slots → (seen p).state.request slot ≡ None
      → Lies (setting p).wear ((seen p).state.generation slot) (home p.arena slot)
  -- any two posting lists agree, and each live request stands for one entry of its member's, alone
  pub agree : (comm m n place : ℕ) (s t : Signature)
      → slice_get ((seen p).state.posts comm m) place ≡ Some s
      → slice_get ((seen p).state.posts comm n) place ≡ Some t → s ≡ t
  pub own : (slot : ℕ) (q : Asked) → (seen p).state.request slot ≡ Some q
      → (sig : Signature) × (signature_of (seen p).state q ≡ Some sig) × (sig.mode ≡ q.mode)
  pub alone : (i j : ℕ) (q r : Asked) → (seen p).state.request i ≡ Some q → (seen p).state.request j ≡ Some r
      → q.comm ≡ r.comm → q.place ≡ r.place → q.member ≡ r.member → i ≡ j
  -- what is Done holds its value
  pub held : (slot : ℕ) (q : Asked) → (seen p).state.request slot ≡ Some q → (seen p).done slot ≡ true → HoldsValue p slot q
  -- a list shows what its requests wait for
  pub waits : (slot : ℕ) (r : Request) → record_in p.arena slot ≡ Some r → Waits p slot r
  -- the sum that is kept of lent bytes is that over the active requests
  pub lent_is : lent p.arena ≡ lent_bytes (setting p) (seen p).state
