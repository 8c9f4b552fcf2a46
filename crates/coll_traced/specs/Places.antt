-- Which of its kind an entry names, as the trace keeps it.
use Rattle.std.specs.Prelude.{◌≡◌, ℕ, List, [], ◌∷◌, ◌++◌}
use Rattle.coll_machine.specs.Entries.{Entry, Posted, Inited, Started, Retired, Freed}

-- the place of a post, of an initialisation or of a completion, and the number of a start
abbrev pub place_in : Entry → ℕ
place_in (Posted rank t comm place sig bytes) = place
place_in (Inited rank t comm place sig) = place
place_in (Started rank t start bytes) = start
place_in (Retired rank t comm place start bytes) = place
place_in (Freed rank t) = 0

-- it is the last entry
abbrev pub IsLast : List Entry → Entry → Type 0
IsLast entries e = (before : List Entry) × (entries ≡ before ++ e ∷ [])

-- the place of the last entry, if there is one
abbrev pub NamesLast : List Entry → ℕ → Type 0
NamesLast entries n = (before : List Entry) (e : Entry) → entries ≡ before ++ e ∷ [] → n ≡ place_in e
