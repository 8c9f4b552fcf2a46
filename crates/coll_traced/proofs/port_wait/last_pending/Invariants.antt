use Rattle.std.proofs.Common.{◌≡◌, ◌≤◌, ◌<◌, ℕ, length, Some}
use Rattle.std.specs.Prelude.{slice_get}
use Rattle.coll_kinds.specs.declared.ticket.Ticket.{Ticket}
use Rattle.coll_traced.specs.Stalls.{IsPending}
use Rattle.coll_traced.proofs.port_wait.last_pending.Given as goal

abbrev pub invariant-loop-index : goal.invariant-loop-index
invariant-loop-index l = (k : ℕ) (t : Ticket) → l.index ≤ k → slice_get l.requests k ≡ Some (Some t) → IsPending l.core l.rank t → ⊥
