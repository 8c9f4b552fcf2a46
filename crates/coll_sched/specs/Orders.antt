-- The actions of one round are done at once: their order doesn't matter,
-- and what a member holds rests only on what it heard
use Rattle.std.specs.Prelude.{◌≡◌, ℕ, suc, ◌<◌, ◌≤◌, List, ◌∷◌, length}
use Rattle.coll_sched.specs.declared.action.Action.{Action}
use Rattle.coll_sched.specs.Actions.{wrote_all}
use Rattle.coll_sched.specs.Schedules.{exchanges}
use Rattle.coll_sched.specs.Families.{Family, actions_at, lock_step, messages, Heard, IsLawful, family_exchanges}

-- the same actions in another order, by swaps of neighbours
pub data Reordered : List Action → List Action → Type 0 where
  same : {xs : List Action} → Reordered xs xs
  swap : {xs : List Action} (a b : Action) → Reordered (a ∷ b ∷ xs) (b ∷ a ∷ xs)
  under : {xs ys : List Action} (a : Action) → Reordered xs ys → Reordered (a ∷ xs) (a ∷ ys)
  both : {xs ys zs : List Action} → Reordered xs ys → Reordered ys zs → Reordered xs zs

-- in whatever order the actions of a round are done, each reading the buffer before the round,
-- they leave the same buffer
abbrev pub Commutes : Type 0
Commutes = (n : ℕ) (f : Family)
    → IsLawful n f
    → (given : ℕ → List ℕ)
    → ((r : ℕ) → r < n → length (given r) ≡ (f r).input.len)
    → (j r : ℕ)
    → r < n
    → (ys : List Action)
    → Reordered (actions_at f j r) ys
    → wrote_all (messages f given j r) (lock_step f given j r) ys (lock_step f given j r) ≡ lock_step f given (suc j) r

-- T(j) at r is the same for two inputs that agree on H(j, r)
abbrev pub RestsOnHeard : Type 0
RestsOnHeard = (f : Family) (xs ys : ℕ → List ℕ) (j r : ℕ)
    → ((p : ℕ) → Heard f j r p → xs p ≡ ys p)
    → lock_step f xs j r ≡ lock_step f ys j r

-- no member has more exchanges than its family
abbrev pub BoundsMembers : Type 0
BoundsMembers = (n : ℕ) (f : Family) → IsLawful n f → (r : ℕ) → r < n → exchanges (f r).rounds ≤ family_exchanges n f
