-- What the entries of posts, initialisations and starts are.
use Rattle.std.specs.Prelude.{◌≡◌, ℕ, List, Option, Some}
use Rattle.coll_kinds.specs.declared.signature.Signature.{Signature}
use Rattle.coll_kinds.specs.declared.ticket.Ticket.{Ticket}
use Rattle.coll_machine.specs.Entries.{Entry, Posted, Inited, Started}

-- the entry is of the post that made this request,
abbrev pub IsPosted : ℕ → Option Ticket → ℕ → Signature → List ℕ → Entry → Type 0
IsPosted rank r comm sig bytes e =
    (t : Ticket) × (place : ℕ) × (r ≡ Some t) × (e ≡ Posted rank t comm place sig bytes)

-- of the initialisation that made it,
abbrev pub IsInited : ℕ → Option Ticket → ℕ → Signature → Entry → Type 0
IsInited rank r comm sig e = (t : Ticket) × (place : ℕ) × (r ≡ Some t) × (e ≡ Inited rank t comm place sig)

-- of a start of it
abbrev pub IsStarted : ℕ → Option Ticket → List ℕ → Entry → Type 0
IsStarted rank r bytes e = (t : Ticket) × (start : ℕ) × (r ≡ Some t) × (e ≡ Started rank t start bytes)
