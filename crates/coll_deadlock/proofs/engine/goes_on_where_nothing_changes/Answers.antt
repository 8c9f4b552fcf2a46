use Rattle.coll_deadlock.proofs.Running.{goes_on_where_nothing_changes}
use Rattle.coll_deadlock.proofs.engine.goes_on_where_nothing_changes.Goals as goal

pub returns : goal.returns
returns c = goes_on_where_nothing_changes c.args.core.now c.none_is_early.ensures
