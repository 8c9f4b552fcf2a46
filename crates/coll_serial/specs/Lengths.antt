-- The lengths of outcomes, by slot.
use Rattle.std.specs.Prelude.{◌≡◌, ◌≤◌, ℕ, List, length, slice_get, true, Option, Some, None}
use Rattle.coll_kinds.specs.declared.signature.Signature.{Signature}
use Rattle.coll_kinds.specs.declared.ticket.Ticket.{Ticket}
use Rattle.coll_kinds.specs.Lengths.{got_len}
use Rattle.coll_plans.specs.Plans.{family}
use Rattle.coll_machine.specs.Common.{Planned, Setting, size, Machine, Request, State, found, signature_of}
use Rattle.coll_complete.specs.Requests.{is_done}

-- the length of a plan's outcome
pub record IsLength (plan : Planned) (len : ℕ) : Type 0 where
  pub is : len ≡ got_len plan.sig plan.n plan.member
  pub output_is : (family plan.sig plan.n plan.member).output.len ≡ got_len plan.sig plan.n plan.member

-- the slot's length is that of the request's outcome
pub record IsMeasured (g : Setting) (s : State) (lengths : List ℕ) (slot : ℕ) (q : Request) : Type 0 where
  pub sig : Signature
  pub sig_is : signature_of s q ≡ Some sig  -- its member's signature at its place
  pub is : slice_get lengths slot ≡ Some (got_len sig (size g q.comm) q.member)
  pub output_is : (family sig (size g q.comm) q.member).output.len ≡ got_len sig (size g q.comm) q.member

-- each live request's is
pub record AreMeasured (g : Setting) (s : State) (lengths : List ℕ) : Type 0 where
  pub enough : length lengths ≡ g.slots
  pub each : (slot : ℕ) (q : Request) → s.request slot ≡ Some q → IsMeasured g s lengths slot q

-- the request that a ticket names has an outcome of that many bytes
pub record IsOutcomeLength (g : Setting) (s : State) (t : Ticket) (len : ℕ) : Type 0 where
  pub request : Request
  pub sig : Signature
  pub found_is : found s t ≡ Some request
  pub sig_is : signature_of s request ≡ Some sig
  pub is : len ≡ got_len sig (size g request.comm) request.member

abbrev pub IsOutcomeLengthAt : Setting → State → Option Ticket → ℕ → Type 0
IsOutcomeLengthAt g s None len = ⊥
IsOutcomeLengthAt g s (Some t) len = IsOutcomeLength g s t len

-- there is room for the outcome of the request that a ticket names
abbrev pub HasRoom : Setting → State → Ticket → ℕ → Type 0
HasRoom g s t room = (q : Request) (sig : Signature) → found s t ≡ Some q → signature_of s q ≡ Some sig
    → (family sig (size g q.comm) q.member).output.len ≤ room

-- if that is Done
abbrev pub RoomFor : Setting → Machine → Option Ticket → ℕ → Type 0
RoomFor g m None room = Unit {0}
RoomFor g m (Some t) room = is_done m (Some t) ≡ true → HasRoom g m.state t room
