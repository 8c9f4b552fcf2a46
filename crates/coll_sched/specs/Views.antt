-- What an engine that runs an instance needs besides: worlds that agree everywhere, several ends of rounds at once,
-- and an instance that all have left
use Rattle.std.specs.Prelude.{◌≡◌, ℕ, suc, ◌+◌, ◌<◌, ◌≤◌, ◌≢◌, [], length, Some, None}
use Rattle.coll_sched.specs.Families.{Family, actions_at, IsLawful}
use Rattle.coll_kinds.specs.Puts.{put}
use Rattle.coll_sched.specs.Worlds.{Progress, World, Reached}
use Rattle.coll_sched.specs.Tracks.{Tracks}

-- the worlds are alike at each place
pub record Agrees (w v : World) : Type 0 where
  pub given : (r : ℕ) → v.given r ≡ w.given r
  pub progress : (r : ℕ) → v.progress r ≡ w.progress r
  pub mail : (q r j : ℕ) → v.mail q r j ≡ w.mail q r j

-- member r at the beginning of round k
abbrev pub skipped : World → ℕ → Progress → ℕ → World
skipped w r p k =
    record {
      given = w.given;
      progress = put w.progress r (Some (record { round = k; index = 0; buf = p.buf }));
      mail = w.mail;
    }

-- a member may pass over the end of its round and over d empty rounds in one go
abbrev pub Skips : Type 0
Skips = (n : ℕ) (f : Family) (w : World) (r : ℕ) (p : Progress) (d : ℕ)
    → Tracks n f w
    → w.progress r ≡ Some p
    → p.index ≡ length (actions_at f p.round r)
    → p.round + d < length (f r).rounds
    → ((j : ℕ) → p.round < j → j ≤ p.round + d → actions_at f j r ≡ [])
    → Tracks n f (skipped w r p (suc (p.round + d)))

-- a world that all members have joined and left has no message standing
abbrev pub Empties : Type 0
Empties = (n : ℕ) (f : Family)
    → IsLawful n f
    → (w : World)
    → Reached n f w
    → ((r : ℕ) → r < n → (w.given r ≢ None) × (w.progress r ≡ None))
    → (q r j : ℕ)
    → w.mail q r j ≡ None
