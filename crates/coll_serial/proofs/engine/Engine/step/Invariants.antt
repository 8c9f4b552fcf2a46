use Rattle.coll_serial.specs.Progress.{Advances}
use Rattle.coll_serial.proofs.engine.Engine.step.Given as goal

abbrev pub invariant-loop-actions : goal.invariant-loop-actions
invariant-loop-actions l = Advances l.fn.self l.self l.actions
