use Rattle.std.proofs.Common.{◌≡◌, take}
use Rattle.coll_core.specs.Cores.{seen, setting}
use Rattle.coll_complete.specs.Starting.{StartsAll}
use Rattle.coll_serial.specs.Lists.{begun_of}
use Rattle.coll_serial.proofs.engine.Engine.start_all.Given as goal

abbrev pub invariant-loop-at : goal.invariant-loop-at
invariant-loop-at l = record {
  set : setting l.self ≡ setting l.initial.self;
  starts : StartsAll (setting l.initial.self) l.rank (seen l.initial.self) (take l.at (begun_of l.parts l.given)) (seen l.self);
}
