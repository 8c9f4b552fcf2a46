-- What a pointer to a combination owns: the combination's block, or nothing. A combination is seen by its stage.
use base.Fml.{Fml, ftrue}
use denote.RawPtr.{Ptr}
use Rattle.std.specs.Prelude.{Option, Some, None}
use Rattle.std.specs.Global.{Global}
use Rattle.std.specs.Box.Ownership.{box_owns}
use Rattle.std_heap.specs.contracts.GlobalAllocator.TheImpl.{ghosts}
use Rattle.coll_serial.specs.declared.combination.Stage.{Stage}
use Rattle.coll_serial.specs.contracts.combination.Combination.{the_row}

abbrev pub owned_work : Global → Ptr → Option (Option Stage) → Fml
owned_work alloc at None = ftrue
owned_work alloc at (Some combination) = box_owns (ghosts.dealloc_token alloc) the_row at combination
