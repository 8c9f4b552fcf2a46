use Rattle.coll_core.specs.Steps.{Ran, left}
use Rattle.coll_core.proofs.engine.Core.settle.Given as goal

abbrev pub invariant-loop-ticket : goal.invariant-loop-ticket
invariant-loop-ticket l = Ran l.fn.self l.self l.steps

abbrev pub decreases-loop-ticket : goal.decreases-loop-ticket
decreases-loop-ticket l = left l.self
