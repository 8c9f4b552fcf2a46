-- Where bytes lie
use Rattle.std.specs.Prelude.{ℕ, ◌+◌, ◌<◌, ◌≤◌, ◌^◌, List, take, length}
use Rattle.std.specs.Arc.{arc_value}
use Rattle.coll_sched.specs.Regions.{Inside, read_of}
use Rattle.coll_bytes.specs.declared.bytes.TheConstants.{FEW}
use Rattle.coll_bytes.specs.declared.bytes.Memory.{Memory}
use Rattle.coll_bytes.specs.declared.bytes.Memory.TheVariants.{InPlace, Owned, Shared}

-- the bytes that lie there
abbrev pub bytes_in : Memory → List ℕ
bytes_in (InPlace words row len) = take len row
bytes_in (Owned block place) = read_of block.items place
bytes_in (Shared block place) = read_of (arc_value block).bytes.items place

-- the row or the block has them, and what lies after them has a number
abbrev pub IsPlaced : Memory → Type 0
IsPlaced (InPlace words row len) = (len ≤ FEW) × (len ≤ length row)
IsPlaced (Owned block place) = Inside (length block.items) place × (place.at + place.len < 2 ^ 32)
IsPlaced (Shared block place) = Inside (length (arc_value block).bytes.items) place × (place.at + place.len < 2 ^ 32)
