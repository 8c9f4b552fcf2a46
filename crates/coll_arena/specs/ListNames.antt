-- The numbers of an arena's lists.
use Rattle.std.specs.Prelude.{ℕ, ◌+◌, ◌*◌}
use Rattle.coll_arena.specs.declared.list_name.ListName.{ListName}
use Rattle.coll_arena.specs.declared.list_name.ListName.TheVariants.{Free, Worn, Ready, Running, Idle, Queue, Done}

-- four lists for all communicators, and then three for each
abbrev pub number_of : ListName → ℕ
number_of Free = 0
number_of Worn = 1
number_of Ready = 2
number_of Running = 3
number_of (Idle comm) = 4 + 3 * comm
number_of (Queue comm) = 5 + 3 * comm
number_of (Done comm) = 6 + 3 * comm

-- how many lists an arena has
abbrev pub list_count : ℕ → ℕ
list_count comms = 4 + 3 * comms
