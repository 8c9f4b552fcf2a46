use Rattle.std.proofs.Common.{◌≡◌}
use Rattle.coll_core.specs.Cores.{Parts}
use Rattle.coll_core.specs.Steps.{left, running}
use Rattle.coll_serial.specs.Progress.{Progresses}
use Rattle.coll_serial.proofs.engine.Engine.hand_out.Given as goal

-- some actions were done, and the same combinations are outside
pub record GoesOn (p r : Parts) : Type 0 where
  pub progresses : Progresses p r
  pub running_is : running r ≡ running p

abbrev pub invariant-loop-work : goal.invariant-loop-work
invariant-loop-work l = GoesOn l.fn.self l.self

abbrev pub decreases-loop-work : goal.decreases-loop-work
decreases-loop-work l = left l.self
