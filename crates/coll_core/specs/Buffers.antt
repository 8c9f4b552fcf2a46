-- The bytes of a buffer, and its memory for them.
use Rattle.std.specs.Prelude.{◌≡◌, ◌<◌, ◌≤◌, ℕ, List, length, [], Vec, vec_capacity, vec_len}
use Rattle.std.specs.Global.{Global}
use Rattle.coll_bytes.specs.declared.bytes.TheConstants.{FEW}
use Rattle.coll_core.specs.declared.buffer.Memory.{Memory}
use Rattle.coll_core.specs.declared.buffer.Memory.TheVariants.{InPlace, Together, InSegments}

-- the bytes that lie there
abbrev pub bytes_of : Memory → List ℕ
bytes_of (InPlace row) = row
bytes_of (Together own spare) = own.items
bytes_of (InSegments segmented) = segmented.value.long.segments.bytes

-- memory for that many bytes
pub record IsRoom (room : Vec ℕ Global) (len : ℕ) : Type 0 where
  pub empty : room.items ≡ []
  pub none : vec_len room ≡ 0
  pub enough : len ≤ vec_capacity room

-- there is memory for a copy of that many bytes, if they aren't a few
pub record HasRoom (spare : Vec ℕ Global) (len : ℕ) : Type 0 where
  pub empty : spare.items ≡ []
  pub none : vec_len spare ≡ 0
  pub room : FEW < len → len ≤ vec_capacity spare

-- bytes in one piece have memory for a copy of them
abbrev pub HasSpare : Memory → Type 0
HasSpare (InPlace row) = Unit {0}
HasSpare (Together own spare) = HasRoom spare (length own.items)
HasSpare (InSegments segmented) = Unit {0}

-- few bytes need no memory; others have it for a copy of them, and, while they lie in segments, for them too
abbrev pub HasRooms : Memory → Type 0
HasRooms (InPlace row) = Unit {0}
HasRooms (Together own spare) = HasRoom spare (length own.items)
HasRooms (InSegments segmented) =
    IsRoom segmented.value.own (length segmented.value.long.segments.bytes)
    × HasRoom segmented.value.spare (length segmented.value.long.segments.bytes)
