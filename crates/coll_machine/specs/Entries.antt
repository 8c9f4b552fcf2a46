-- The trace: which calls of which ranks were accepted, in one order.
use Rattle.std.specs.Prelude.{ℕ, List}
use Rattle.coll_kinds.specs.declared.signature.Signature.{Signature}
use Rattle.coll_kinds.specs.declared.ticket.Ticket.{Ticket}

pub data Entry : Type 0 where
  Posted : (rank : ℕ) (ticket : Ticket) (comm place : ℕ) (sig : Signature) (bytes : List ℕ) → Entry
  Inited : (rank : ℕ) (ticket : Ticket) (comm place : ℕ) (sig : Signature) → Entry
  Started : (rank : ℕ) (ticket : Ticket) (start : ℕ) (bytes : List ℕ) → Entry
  Retired : (rank : ℕ) (ticket : Ticket) (comm place start : ℕ) (bytes : List ℕ) → Entry
  Freed : (rank : ℕ) (ticket : Ticket) → Entry
