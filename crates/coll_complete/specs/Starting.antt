-- Starts of a list of requests (MPI 4.1, 3.9).
use Rattle.std.specs.Prelude.{◌≡◌, ℕ, List, [], ◌∷◌, ◌++◌, drop, replicate, Option, Some, None}
use Rattle.coll_kinds.specs.declared.refusal.Refusal.{Refusal}
use Rattle.coll_kinds.specs.declared.refusal.Refusal.TheVariants.{Stale}
use Rattle.coll_kinds.specs.declared.ticket.Ticket.{Ticket}
use Rattle.coll_machine.specs.Common.{Setting, Machine, Call, Nothing, Start, StepsTo}
use Rattle.coll_core.specs.Calls.{Refuses}

-- a request, and the bytes that its start is given
abbrev pub Begun : Type 0
Begun = Option Ticket × List ℕ

-- the request is started with them; a null one can't be
abbrev pub StartsAt : Setting → ℕ → Machine → Begun → Machine → Type 0
StartsAt g rank m (None, bytes) n = ⊥
StartsAt g rank m (Some t, bytes) n = StepsTo g m (Start rank t bytes) Nothing n

-- its start is refused; a null one as one that names nothing
abbrev pub RefusesAt : Setting → ℕ → Machine → Begun → Refusal → Type 0
RefusesAt g rank m (None, bytes) why = why ≡ Stale
RefusesAt g rank m (Some t, bytes) why = Refuses g m (Start rank t bytes) why

-- the same of any engine with requests, which denies starts so
abbrev pub DeniesAt : (Call → Refusal → Type 0) → ℕ → Begun → Refusal → Type 0
DeniesAt Denies rank (None, bytes) why = why ≡ Stale
DeniesAt Denies rank (Some t, bytes) why = Denies (Start rank t bytes) why

-- they are started one after the other
abbrev pub StartsAll : Setting → ℕ → Machine → List Begun → Machine → Type 0
StartsAll g rank m [] n = m ≡ n
StartsAll g rank m (b ∷ bs) n = (next : Machine) × StartsAt g rank m b next × StartsAll g rank next bs n

-- the lists of bytes, of which that many, the first ones, were used
abbrev pub unused : ℕ → List (List ℕ) → List (List ℕ)
unused i lists = replicate i [] ++ drop i lists
