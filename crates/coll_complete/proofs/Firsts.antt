-- Lists: the first refusal, and a test at a position.
use Rattle.std.proofs.Common.{◌≡◌, ℕ, zero, suc, ◌<◌, true, List, [], ◌∷◌, length, get_or, map, Option, Some, None, refl, sym, arith}
use Rattle.std.specs.Option.{option_or}
use Rattle.std.proofs.lemmas.Option.{none-some}
use Rattle.coll_machine.specs.Common.{first_of, Machine}
use Rattle.coll_kinds.specs.declared.refusal.Refusal.{Refusal}
use Rattle.coll_kinds.specs.declared.ticket.Ticket.{Ticket}
use Rattle.coll_core.specs.declared.phase.Phase.{Phase}
use Rattle.coll_core.specs.declared.phase.Phase.TheVariants.{Idle, Pending, Done}
use Rattle.coll_complete.specs.Requests.{active_by, done_by, is_active, is_done, phase_at}

or_none : (a b : Option Refusal) → option_or a b ≡ None → (a ≡ None) × (b ≡ None)
or_none None b e = (refl, e)
or_none (Some why) b e = absurd (none-some why (sym e))

-- where no element has a refusal, the one at a position has none
pub first_of-map : {X : Type 0} (f : X → Option Refusal) (xs : List X) (i : ℕ) (d : X) → first_of (map f xs) ≡ None
    → i < length xs → f (get_or xs i d) ≡ None
first_of-map f [] i d none lt = absurd (omega arith)
first_of-map f (x ∷ xs) zero d none lt = (or_none (f x) (first_of (map f xs)) none).0
first_of-map f (x ∷ xs) (suc i) d none lt =
    first_of-map f xs i d (or_none (f x) (first_of (map f xs)) none).1 (omega arith)

-- what is Done is active
active-done : (p : Option Phase) → done_by p ≡ true → active_by p ≡ true
active-done None e = e
active-done (Some Idle) e = e
active-done (Some Pending) e = refl
active-done (Some Done) e = refl

pub is_active-done : (m : Machine) (r : Option Ticket) → is_done m r ≡ true → is_active m r ≡ true
is_active-done m r e = active-done (phase_at m r) e
