use Rattle.std.proofs.Common.{subst}
use Rattle.coll_core.specs.Cores.{Parts}
use Rattle.coll_core.specs.LockSteps.{OfLockStep}
use Rattle.coll_core.specs.Steps.{IsOut}
use Rattle.coll_core.specs.Works.{Piece}
use Rattle.coll_core.proofs.between.LockStep.{of_lock_step}
use Rattle.coll_core.proofs.engine.Core.check_operands.Goals as goal

pub returns : goal.returns
returns c = subst (λ (p : Parts). (w : Piece) → IsOut p w → OfLockStep p w) c.self.view_is (of_lock_step _ c.self.invariant)
