-- What a pointer to an engine owns: the engine's block, or nothing.
use base.Fml.{Fml, ftrue}
use denote.RawPtr.{Ptr}
use Rattle.std.specs.Prelude.{Option, Some, None}
use Rattle.std.specs.Global.{Global}
use Rattle.std.specs.Box.Ownership.{box_owns}
use Rattle.std_heap.specs.contracts.GlobalAllocator.TheImpl.{ghosts}
use Rattle.coll_core.specs.Cores.{Parts}
use Rattle.coll_serial.specs.contracts.engine.Engine.{the_row}

abbrev pub owned : Global → Ptr → Option Parts → Fml
owned alloc at None = ftrue
owned alloc at (Some engine) = box_owns (ghosts.dealloc_token alloc) the_row at engine
