-- What an engine that keeps its instances on their track, call by call, may conclude of them
use Rattle.std.specs.Prelude.{◌≡◌, ℕ, ◌<◌, ◌≢◌, length, Some, None}
use Rattle.coll_kinds.specs.declared.signature.Signature.{Signature}
use Rattle.coll_sched.specs.Families.{Family, Heard, IsLawful}
use Rattle.coll_sched.specs.Worlds.{Progress, World, Reached, Step}
use Rattle.coll_sched.specs.Tracks.{Tracks}
use Rattle.coll_sched.specs.Heart.{Holds, IsQuiet}
use Rattle.coll_sched.specs.Served.{HoldsValue, Serves}

-- each event of a lawful family keeps an instance on its track, and every world that is reached is on it
abbrev pub StepsTrack : Type 0
StepsTrack = (n : ℕ) (f : Family) → IsLawful n f → (w v : World) → Step n f w v → Tracks n f w → Tracks n f v

abbrev pub ReachedTracks : Type 0
ReachedTracks = (n : ℕ) (f : Family) → IsLawful n f → (w : World) → Reached n f w → Tracks n f w

-- a world that nobody has joined is on the track of every family, once on that of one
abbrev pub UnbegunTracks : Type 0
UnbegunTracks = (n : ℕ) (f g : Family) (w : World) → Tracks n f w → ((r : ℕ) → w.given r ≡ None) → Tracks n g w

-- who hasn't joined has no next action
abbrev pub UnbegunRests : Type 0
UnbegunRests = (n : ℕ) (f : Family) (w : World) (r : ℕ) → Tracks n f w → w.given r ≡ None → w.progress r ≡ None

-- the heart, a member's value, and that quiet means finished: of worlds on the track, as of those that are reached
abbrev pub TrackedHolds : Type 0
TrackedHolds = (n : ℕ) (f : Family) → IsLawful n f → (w : World) → Tracks n f w → Holds n f w

abbrev pub TrackedValue : Type 0
TrackedValue =
    (sig : Signature) (n : ℕ) (f : Family) → Serves sig n f → (w : World) → Tracks n f w
    → (r : ℕ) (p : Progress) → w.progress r ≡ Some p → p.round ≡ length (f r).rounds → HoldsValue sig n f w r p

abbrev pub TrackedFinishes : Type 0
TrackedFinishes =
    (n : ℕ) (f : Family) → IsLawful n f → (w : World) → Tracks n f w
    → ((r : ℕ) → r < n → w.given r ≢ None) → IsQuiet f w
    → (r : ℕ) (p : Progress) → w.progress r ≡ Some p → p.round ≡ length (f r).rounds

abbrev pub TrackedFinishesHeard : Type 0
TrackedFinishesHeard =
    (n : ℕ) (f : Family) → IsLawful n f → (w : World) → Tracks n f w → IsQuiet f w
    → (r : ℕ) (p : Progress) → w.progress r ≡ Some p
    → ((s : ℕ) → Heard f (length (f r).rounds) r s → w.given s ≢ None)
    → p.round ≡ length (f r).rounds
