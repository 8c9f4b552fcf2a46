-- What a rank posted, initialised and started, as a trace has it.
use Rattle.std.specs.Prelude.{◌==◌, ℕ, Bool, false, List, filter}
use Rattle.coll_machine.specs.Entries.{Entry, Posted, Inited, Started, Retired, Freed}

-- a post, an initialisation or a start of the rank
abbrev pub posts_by : ℕ → Entry → Bool
posts_by r (Posted rank t comm place sig bytes) = rank == r
posts_by r (Inited rank t comm place sig) = rank == r
posts_by r (Started rank t start bytes) = rank == r
posts_by r (Retired rank t comm place start bytes) = false
posts_by r (Freed rank t) = false

-- those of a rank, in order
abbrev pub posts_of : ℕ → List Entry → List Entry
posts_of r es = filter (posts_by r) es
