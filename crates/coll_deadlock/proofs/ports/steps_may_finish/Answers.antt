use Rattle.coll_deadlock.proofs.Locking.{steps_may_finish}
use Rattle.coll_deadlock.proofs.ports.steps_may_finish.Goals as goal

pub returns : goal.returns
returns c = steps_may_finish
