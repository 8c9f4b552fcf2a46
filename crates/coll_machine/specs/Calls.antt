-- The calls on an engine, and what they answer.
use Rattle.std.specs.Prelude.{ℕ, List}
use Rattle.coll_kinds.specs.declared.signature.Signature.{Signature}
use Rattle.coll_kinds.specs.declared.ticket.Ticket.{Ticket}
use Rattle.coll_kinds.specs.declared.refusal.Refusal.{Refusal}

-- what a plan was made for: a member, and the number of members
pub record Planned : Type 0 where
  pub sig : Signature
  pub n : ℕ
  pub member : ℕ

pub data Call : Type 0 where
  Post : (rank comm : ℕ) (plan : Planned) (bytes : List ℕ) → Call  -- `MPI_Ibcast` and its like
  Init : (rank comm : ℕ) (plan : Planned) → Call  -- `MPI_Bcast_init` and its like
  Start : (rank : ℕ) (ticket : Ticket) (bytes : List ℕ) → Call  -- `MPI_Start`
  Retire : (rank : ℕ) (ticket : Ticket) → Call  -- what `MPI_Test` and `MPI_Wait` do to a request
  Free : (rank : ℕ) (ticket : Ticket) → Call  -- `MPI_Request_free`
  Finish : Call  -- the engine's own: no caller asks for it

pub data Reply : Type 0 where
  Ticketed : Ticket → Reply
  Outcome : (rank comm place start : ℕ) (bytes : List ℕ) → Reply
  Nothing : Reply
  Refused : Refusal → Reply
