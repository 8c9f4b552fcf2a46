use Rattle.coll_deadlock.proofs.Running.{goes_on_by_commit}
use Rattle.coll_deadlock.proofs.engine.goes_on_by_commit.Goals as goal

pub returns : goal.returns
returns c = goes_on_by_commit c.args.core.now c.none_is_early.ensures
