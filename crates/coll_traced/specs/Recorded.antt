-- What a trace in memory shows.
use Rattle.std.specs.Prelude.{◌≡◌, ◌+◌, ◌<◌, ◌≤◌, ℕ, List, length}
use Rattle.coll_machine.specs.Entries.{Entry}

pub record Recorded : Type 0 where
  pub entries : List Entry  -- what was accepted, in order
  pub reserved : ℕ  -- the entries that these speak for
  pub capacity : ℕ  -- the entries for which there is memory

-- there is memory for what is spoken for, and all tallies add up to the trace's length
pub record IsRecorded (t : Recorded) (total : ℕ) : Type 0 where
  pub counted : total ≡ length t.entries
  pub room : length t.entries + t.reserved ≤ t.capacity

-- an entry and the one that it speaks for would pass the limit
abbrev pub IsFilled : Recorded → ℕ → Type 0
IsFilled t limit = limit < length t.entries + t.reserved + 2
