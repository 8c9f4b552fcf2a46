use Rattle.coll_plans.specs.Hearings.{hears_here}
use Rattle.coll_deadlock.proofs.CoreRows.{waits_unsettled}
use Rattle.coll_deadlock.proofs.engine.waits_unsettled.Goals as goal

pub returns : goal.returns
returns c = waits_unsettled (c.lone_barrier_never_stalls_by.ensures hears_here)
