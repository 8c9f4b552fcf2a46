-- What each accepted call does: a relation of the state before it and the state after it.
use Rattle.std.specs.Prelude.{◌≡◌, ◌≢◌, ◌⊎◌, ◌<◌, ℕ, suc, Bool, true, false, List, length, map, replicate, unwrap_or, Option, Some, None}
use Rattle.std.specs.List.{range_with_len}
use Rattle.coll_kinds.specs.declared.kind.Mode.TheVariants.{Once, Persistent}
use Rattle.coll_kinds.specs.declared.signature.Signature.{Signature}
use Rattle.coll_kinds.specs.declared.ticket.Ticket.{Ticket}
use Rattle.coll_kinds.specs.Common.{member_of, given_len, needs, put}
use Rattle.coll_ops.specs.Values.{value}
use Rattle.coll_machine.specs.Settings.{Setting, group, size}
use Rattle.coll_machine.specs.declared.key.Key.{Key}
use Rattle.coll_machine.specs.States.{Request, State, Machine, found, key_of, signature_of}
use Rattle.coll_machine.specs.Changes.{new_request, created, started, rested, holding, forgotten}
use Rattle.coll_machine.specs.Calls.{Planned, Post, Init, Start, Retire, Free}
use Rattle.coll_machine.specs.Refusals.{refusal}

-- the ticket of a new request
pub record IsNew (g : Setting) (s : State) (t : Ticket) : Type 0 where
  pub low : t.slot < g.slots  -- its slot is one of the engine's,
  pub spare : s.request t.slot ≡ None  -- has no live request,
  pub unworn : s.generation t.slot < g.wear  -- may be given to one more,
  pub next : t.generation ≡ suc (s.generation t.slot)  -- and never gave out this ticket before

-- a post (`MPI_Ibcast` and its like) is an initialisation of a once request and its start
pub record Posts (g : Setting) (s : State) (rank : ℕ) (t : Ticket) (comm place : ℕ) (plan : Planned)
    (bytes : List ℕ) (u : State) : Type 0 where
  pub member : ℕ
  pub accepted : refusal g s (Post rank comm plan bytes) ≡ None  -- no condition of a refusal holds
  pub member_is : member_of rank (group g comm) ≡ Some member  -- the caller's number in the communicator
  pub place_is : place ≡ length (s.posts comm member)  -- the next of its posting list
  pub new : IsNew g s t  -- which spare slot is taken is the engine's choice
  -- the request is there and active, and its bytes are the member's contribution
  pub leaves : (let q = new_request rank comm member place Once in u ≡ started (created s t q plan.sig) t.slot q bytes)

-- an initialisation (`MPI_Bcast_init` and its like)
pub record Inits (g : Setting) (s : State) (rank : ℕ) (t : Ticket) (comm place : ℕ)
    (plan : Planned) (u : State) : Type 0 where
  pub member : ℕ
  pub accepted : refusal g s (Init rank comm plan) ≡ None  -- no condition of a refusal holds
  pub member_is : member_of rank (group g comm) ≡ Some member  -- the caller's number in the communicator
  pub place_is : place ≡ length (s.posts comm member)  -- it takes a place as a post does
  pub new : IsNew g s t  -- which spare slot is taken is the engine's choice
  pub leaves : u ≡ created s t (new_request rank comm member place Persistent) plan.sig  -- and gives nothing yet

-- a start (`MPI_Start`) of a persistent request
pub record Starts (g : Setting) (s : State) (rank : ℕ) (t : Ticket) (start : ℕ)
    (bytes : List ℕ) (u : State) : Type 0 where
  pub request : Request
  pub accepted : refusal g s (Start rank t bytes) ≡ None  -- so the request is the caller's, and Idle
  pub is : found s t ≡ Some request  -- the one that the ticket names
  pub start_is : start ≡ request.starts  -- its starts are numbered from 0
  pub leaves : u ≡ started s t.slot request bytes  -- its bytes are the member's contribution to that start

-- a free (`MPI_Request_free`)
pub record Frees (g : Setting) (s : State) (rank : ℕ) (t : Ticket) (u : State) : Type 0 where
  pub accepted : refusal g s (Free rank t) ≡ None  -- so the request is the caller's, and Idle
  pub leaves : u ≡ holding s t.slot None  -- its place in the posting list stays taken

-- what the members gave, in member order; for one that hasn't yet, zeros of the right length, which no value reads
abbrev pub filled : Signature → ℕ → (ℕ → Option (List ℕ)) → List (List ℕ)
filled sig n given = map (λ m. unwrap_or (given m) (replicate (given_len sig n m) 0)) (range_with_len 0 n)

-- a member has an active request of the collective
pub record Works (s : State) (k : Key) (m : ℕ) : Type 0 where
  pub slot : ℕ
  pub request : Request
  pub start : ℕ
  pub is : s.request slot ≡ Some request  -- a live request
  pub active : request.active ≡ true  -- that is Pending or Done,
  pub member_is : request.member ≡ m  -- of this member,
  pub last : suc start ≡ request.starts  -- whose start under way
  pub key_is : key_of request start ≡ k  -- is this collective

-- each of that many members has given and left
abbrev pub AllHaveLeft : ℕ → (ℕ → Option (List ℕ)) → (ℕ → Type 0) → Type 0
AllHaveLeft n given HasLeft = (m : ℕ) → m < n → (given m ≢ None) × HasLeft m

-- every member has given to the collective and left it
abbrev pub IsOver : Setting → State → Key → Type 0
IsOver g s k = AllHaveLeft (size g k.comm) (s.given k) (λ m. Works s k m → ⊥)

-- contributions are kept until every member has left, and no longer
abbrev pub Clears : Setting → State → Key → State → Type 0
Clears g s k u = (IsOver g s k × (u ≡ forgotten s k)) ⊎ ((IsOver g s k → ⊥) × (u ≡ s))

-- a start of the request can be completed
pub record IsReady (g : Setting) (s : State) (q : Request) (start : ℕ) (sig : Signature) : Type 0 where
  pub active : q.active ≡ true  -- the request is active,
  pub start_is : suc start ≡ q.starts  -- the start is the one under way,
  pub sig_is : signature_of s q ≡ Some sig  -- its signature is the one that the member posted,
  -- and whoever its value rests on has given: for a barrier all members
  pub needed : (m : ℕ) → needs sig (size g q.comm) q.member m ≡ true → s.given (key_of q start) m ≢ None

-- a completion (`MPI_Wait`, or an `MPI_Test` that says true)
pub record Retires (g : Setting) (s : State) (rank : ℕ) (t : Ticket) (comm place start : ℕ)
    (bytes : List ℕ) (u : State) : Type 0 where
  pub request : Request
  pub sig : Signature
  pub accepted : refusal g s (Retire rank t) ≡ None  -- so the request is the caller's
  pub is : found s t ≡ Some request  -- the one that the ticket names
  pub comm_is : request.comm ≡ comm  -- the outcome tells its communicator
  pub place_is : request.place ≡ place  -- its place
  pub ready : IsReady g s request start sig  -- and its start
  -- the outcome's bytes are the standard's value
  pub bytes_is : bytes ≡ value sig (filled sig (size g comm) (s.given (key_of request start))) request.member
  -- a once request is gone, a persistent one inactive, and the last to leave clears what was given
  pub leaves : Clears g (holding s t.slot (rested request)) (key_of request start) u

-- a Pending request becomes Done; which one, and when, is the engine's choice
pub record Finishes (g : Setting) (m : Machine) (slot : ℕ) (done : ℕ → Bool) : Type 0 where
  pub request : Request
  pub sig : Signature
  pub start : ℕ
  pub is : m.state.request slot ≡ Some request  -- a live request
  pub pending : m.done slot ≡ false  -- that isn't Done yet
  pub ready : IsReady g m.state request start sig  -- and has all that its value rests on
  pub leaves : done ≡ put m.done slot true  -- it is Done, and no other changes
