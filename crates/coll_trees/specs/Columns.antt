-- Families written round by round: what each member does in a round
use Rattle.std.specs.Prelude.{ℕ, List, [], ◌∷◌}
use Rattle.coll_sched.specs.declared.region.Region.{Region}
use Rattle.coll_sched.specs.declared.action.Action.{Action}
use Rattle.coll_sched.specs.Families.{Family}

-- the actions of each member in one round
abbrev pub Column : Type 0
Column = ℕ → List Action

-- the rounds of member r
abbrev pub rounds_of : List Column → ℕ → List (List Action)
rounds_of [] r = []
rounds_of (column ∷ rest) r = column r ∷ rounds_of rest r

-- the family with these rounds, where a member's buffer has its own size
abbrev pub family_with : (ℕ → ℕ) → (ℕ → Region) → (ℕ → Region) → List Column → Family
family_with size input output columns r =
    record { size = size r; input = input r; output = output r; rounds = rounds_of columns r }

-- and in buffers of one size
abbrev pub family_of : ℕ → (ℕ → Region) → (ℕ → Region) → List Column → Family
family_of size = family_with (λ r. size)
