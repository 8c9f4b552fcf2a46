-- Points of a schedule, each a round and an index in it: how a member goes on from one,
-- and the actions that it hasn't done there
use Rattle.std.specs.Prelude.{◌≡◌, ℕ, zero, suc, ◌+◌, ◌-◌, ◌<◌, ◌≤◌, ◌⊎◌, List, [], ◌∷◌, length, slice_get, unwrap_or, Some}
use Rattle.coll_sched.specs.declared.action.Action.{Action}
use Rattle.coll_sched.specs.Schedules.{Parts}
use Rattle.coll_sched.specs.Families.{Family}
use Rattle.coll_kinds.specs.Puts.{put}
use Rattle.coll_sched.specs.Worlds.{Progress, World}
use Rattle.coll_sched.specs.Tracks.{Tracks}

-- the actions of a round: none past the last one
abbrev pub actions_of : Parts → ℕ → List Action
actions_of p j = unwrap_or (slice_get p.rounds j) []

-- the point k, i is the point j, x itself, or it begins a later round: round j is done,
-- and the d rounds between are empty
abbrev pub Over : Parts → ℕ → ℕ → ℕ → ℕ → Type 0
Over p j x k i =
    ((k ≡ j) × (i ≡ x))
    ⊎ ((d : ℕ)
    × (k ≡ suc (j + d))
    × (i ≡ 0)
    × (x ≡ length (actions_of p j))
    × (j + d < length p.rounds)
    × ((y : ℕ) → j < y → y ≤ j + d → actions_of p y ≡ []))

-- there is an action at the point, or all rounds are done
abbrev pub IsPoint : Parts → ℕ → ℕ → Type 0
IsPoint p k i = (i < length (actions_of p k)) ⊎ (k ≡ length p.rounds)

-- the actions from a point on
abbrev pub left_in : List (List Action) → ℕ → ℕ → ℕ
left_in [] round index = 0
left_in (actions ∷ rest) zero index = (length actions - index) + left_in rest 0 0
left_in (actions ∷ rest) (suc round) index = left_in rest round index

abbrev pub remaining : Parts → ℕ → ℕ → ℕ
remaining p round index = left_in p.rounds round index

-- going over ends of rounds and empty rounds does no action
abbrev pub KeepsRemaining : Type 0
KeepsRemaining = (p : Parts) (j x k i : ℕ) → Over p j x k i → remaining p k i ≡ remaining p j x

-- one action lowers what remains by one
abbrev pub LowersRemaining : Type 0
LowersRemaining = (p : Parts) (j x : ℕ) → x < length (actions_of p j) → remaining p j x ≡ suc (remaining p j (suc x))

-- at a point nothing remains exactly where all rounds are done
pub record EndsRemaining (p : Parts) (k i : ℕ) : Type 0 where
  pub nothing : k ≡ length p.rounds → remaining p k i ≡ 0
  pub end : remaining p k i ≡ 0 → k ≡ length p.rounds

abbrev pub Ends : Type 0
Ends = (p : Parts) (k i : ℕ) → IsPoint p k i → EndsRemaining p k i

-- member r at another point
abbrev pub at_point : World → ℕ → Progress → ℕ → ℕ → World
at_point w r p k i =
    record {
      given = w.given;
      progress = put w.progress r (Some (record { round = k; index = i; buf = p.buf }));
      mail = w.mail;
    }

-- what holds of a running instance holds on
abbrev pub GoesOver : Type 0
GoesOver = (n : ℕ) (f : Family) (w : World) (r : ℕ) (p : Progress) (k i : ℕ)
    → Tracks n f w
    → w.progress r ≡ Some p
    → Over (f r) p.round p.index k i
    → Tracks n f (at_point w r p k i)
