-- What a pointer to bytes that were given or taken owns: their block, or nothing.
use base.Fml.{Fml, ftrue}
use denote.RawPtr.{Ptr}
use Rattle.std.specs.Prelude.{ℕ, List, Option, Some, None}
use Rattle.std.specs.Global.{Global}
use Rattle.std.specs.Box.Ownership.{box_owns}
use Rattle.std_heap.specs.contracts.GlobalAllocator.TheImpl.{ghosts}
use Rattle.coll_core.specs.contracts.contribution.Contribution.{the_row}

abbrev pub owned_bytes : Global → Ptr → Option (List ℕ) → Fml
owned_bytes alloc at None = ftrue
owned_bytes alloc at (Some bytes) = box_owns (ghosts.dealloc_token alloc) the_row at bytes
