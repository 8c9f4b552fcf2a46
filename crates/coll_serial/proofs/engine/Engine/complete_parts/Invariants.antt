use Rattle.std.proofs.Common.{◌≡◌, ◌≤◌, length}
use Rattle.coll_core.specs.Cores.{seen, setting}
use Rattle.coll_serial.proofs.Listing.{Going}
use Rattle.coll_serial.proofs.engine.Engine.complete_parts.Given as goal

abbrev pub invariant-loop-part : goal.invariant-loop-part
invariant-loop-part l = record {
  set : setting l.self ≡ setting l.initial.self;
  few : l.many ≤ l.part-index;
  long : length l.out ≡ length l.initial.out;
  goes : Going (setting l.initial.self) l.rank (seen l.initial.self) (seen l.self) l.initial.parts l.parts l.initial.out l.out l.part-index l.many;
}
