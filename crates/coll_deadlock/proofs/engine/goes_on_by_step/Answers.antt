use Rattle.coll_deadlock.proofs.Running.{goes_on_by_step}
use Rattle.coll_deadlock.proofs.engine.goes_on_by_step.Goals as goal

pub returns : goal.returns
returns c = goes_on_by_step c.args.core.now c.none_is_early.ensures
