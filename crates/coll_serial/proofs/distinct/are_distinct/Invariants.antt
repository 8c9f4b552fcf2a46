use Rattle.coll_complete.proofs.Distincts.{Apart}
use Rattle.coll_serial.specs.Parts.{tickets_of}
use Rattle.coll_serial.proofs.distinct.are_distinct.Given as goal

abbrev pub invariant-loop-position : goal.invariant-loop-position
invariant-loop-position l = Apart (tickets_of l.parts) l.position
