-- Which refusals a call meets.
use Rattle.std.proofs.Common.{◌≡◌, ℕ, Some, None, ap}
use Rattle.coll_kinds.specs.declared.refusal.Refusal.TheVariants.{Stale}
use Rattle.coll_kinds.specs.declared.ticket.Ticket.{Ticket}
use Rattle.coll_machine.specs.Common.{Retire, Setting, State, found, first_of, naming_refusals, refusal}

pub stale : (g : Setting) (s : State) (rank : ℕ) (t : Ticket) → found s t ≡ None → refusal g s (Retire rank t) ≡ Some Stale
stale g s rank t e = ap (λ q. first_of (naming_refusals q rank)) e
