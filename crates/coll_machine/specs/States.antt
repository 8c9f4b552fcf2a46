-- What callers can know of an engine: live requests, posting lists, what members gave (MPI 4.1, 3.7, 3.9, 6.12, 6.13).
use Rattle.std.specs.Prelude.{◌==◌, ℕ, Bool, List, [], slice_get, Option, None, if◌then◌else◌}
use Rattle.coll_kinds.specs.declared.kind.Mode.{Mode}
use Rattle.coll_kinds.specs.declared.signature.Signature.{Signature}
use Rattle.coll_kinds.specs.declared.ticket.Ticket.{Ticket}
use Rattle.coll_machine.specs.declared.key.Key.{Key}

-- a live request
pub record Request : Type 0 where
  pub rank : ℕ  -- whose it is
  pub comm : ℕ
  pub member : ℕ  -- the rank's member number in the communicator
  pub place : ℕ  -- how many posts and initialisations of the member on the communicator came before
  pub mode : Mode
  pub starts : ℕ  -- how often it was started; a post is a start too
  pub active : Bool  -- started and not completed since; a request that isn't active is Idle

pub record State : Type 0 where
  pub generation : ℕ → ℕ  -- how many requests a slot was given to
  pub request : ℕ → Option Request  -- the request in a slot
  pub posts : ℕ → ℕ → List Signature  -- what a member of a communicator posted and initialised there, in order
  pub given : Key → ℕ → Option (List ℕ)  -- what a member gave to a collective, while it is kept

-- a slot with an active request is Done where `done` says so, else Pending
pub record Machine : Type 0 where
  pub state : State
  pub done : ℕ → Bool

-- nothing was posted yet
abbrev pub nothing : State
nothing =
    record { generation = λ slot. 0; request = λ slot. None; posts = λ comm member. []; given = λ key member. None }

-- the request that a ticket names: the one in its slot, if it is of the ticket's generation
abbrev pub found : State → Ticket → Option Request
found s t = if s.generation t.slot == t.generation then s.request t.slot else None

abbrev pub key_of : Request → ℕ → Key
key_of q start = record { comm = q.comm; place = q.place; start = start }

-- the signature that the request's member has at its place
abbrev pub signature_of : State → Request → Option Signature
signature_of s q = slice_get (s.posts q.comm q.member) q.place
