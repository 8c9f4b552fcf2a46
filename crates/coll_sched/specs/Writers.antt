-- What a round does to a region rests only on the actions that write bytes of it
use Rattle.std.specs.Prelude.{◌≡◌, ℕ, suc, ◌+◌, ◌<◌, min, max, nat_lt, Bool, cond, List, [], ◌∷◌, length}
use Rattle.std.specs.List.{list_any}
use Rattle.coll_sched.specs.declared.region.Region.{Region}
use Rattle.coll_sched.specs.declared.action.Action.{Action}
use Rattle.coll_sched.specs.Regions.{Inside, read_of}
use Rattle.coll_sched.specs.Actions.{writes, wrote_all}
use Rattle.coll_sched.specs.Families.{Family, actions_at, lock_step, messages, IsLawful}

-- the regions have a byte in common
abbrev pub shares : Region → Region → Bool
shares g h = nat_lt (max g.at h.at) (min (g.at + g.len) (h.at + h.len))

-- the action writes a byte of the region
abbrev pub touches : Region → Action → Bool
touches g a = list_any (shares g) (writes a)

-- those of these actions that do, in their order
abbrev pub writers : Region → List Action → List Action
writers g [] = []
writers g (a ∷ rest) = cond (touches g a) (a ∷ writers g rest) (writers g rest)

-- what a member has in a region after a round is what the writers of the region alone leave there
abbrev pub RestsOnWriters : Type 0
RestsOnWriters =
    (n : ℕ) (f : Family) → IsLawful n f → (given : ℕ → List ℕ) → ((r : ℕ) → r < n → length (given r) ≡ (f r).input.len)
    → (j r : ℕ) → r < n → (g : Region) → Inside (f r).size g
    → read_of (lock_step f given (suc j) r) g
    ≡ read_of
    (wrote_all (messages f given j r) (lock_step f given j r) (writers g (actions_at f j r)) (lock_step f given j r))
    g
