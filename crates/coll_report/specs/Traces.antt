-- What a trace says of one rank.
use Rattle.std.specs.Prelude.{◌==◌, ℕ, Bool, false, List, count_by, filter}
use Rattle.coll_machine.specs.Entries.{Entry, Posted, Inited, Started, Retired, Freed}

-- the rank whose call it was
abbrev pub caller : Entry → ℕ
caller (Posted rank t comm place sig bytes) = rank
caller (Inited rank t comm place sig) = rank
caller (Started rank t start bytes) = rank
caller (Retired rank t comm place start bytes) = rank
caller (Freed rank t) = rank

-- how many entries are a rank's
abbrev pub entries_of : ℕ → List Entry → ℕ
entries_of r es = count_by (λ e. caller e == r) es

-- a completion of the rank
abbrev pub completes_by : ℕ → Entry → Bool
completes_by r (Posted rank t comm place sig bytes) = false
completes_by r (Inited rank t comm place sig) = false
completes_by r (Started rank t start bytes) = false
completes_by r (Retired rank t comm place start bytes) = rank == r
completes_by r (Freed rank t) = false

-- those of a rank, in order
abbrev pub completions_of : ℕ → List Entry → List Entry
completions_of r es = filter (completes_by r) es
