use Rattle.coll_deadlock.proofs.Running.{finish_is_step}
use Rattle.coll_deadlock.proofs.engine.finish_is_step.Goals as goal

pub returns : goal.returns
returns c = finish_is_step
