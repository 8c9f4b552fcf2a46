use Rattle.std.proofs.Common.{drop}
use Rattle.coll_core.specs.Cores.{seen, setting}
use Rattle.coll_complete.proofs.Surveys.{Surveyed}
use Rattle.coll_serial.specs.Parts.{tickets_of}
use Rattle.coll_serial.proofs.engine.Engine.survey.Given as goal

abbrev pub invariant-loop-position : goal.invariant-loop-position
invariant-loop-position l =
    Surveyed (setting l.self) (seen l.self) l.rank (tickets_of l.parts) (tickets_of (drop l.position l.parts)) l.position l.survey
