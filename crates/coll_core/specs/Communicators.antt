-- The members of communicators.
use Rattle.std.specs.Prelude.{◌≤◌, ℕ, List, length, map, Vec}
use Rattle.std.specs.Global.{Global}
use Rattle.coll_machine.specs.Settings.{group_in}

-- the groups as lists
abbrev pub groups_seen : List (Vec ℕ Global) → List (List ℕ)
groups_seen groups = map (λ (group : Vec ℕ Global). group.items) groups

-- no communicator has more members than there may be ranks
abbrev pub AreFew : List (List ℕ) → Type 0
AreFew groups = (comm : ℕ) → length (group_in groups comm) ≤ 64
