use Rattle.coll_deadlock.proofs.Running.{goes_on_by_steps}
use Rattle.coll_deadlock.proofs.engine.goes_on_by_steps.Goals as goal

pub returns : goal.returns
returns c = goes_on_by_steps c.args.core.now c.none_is_early.ensures
