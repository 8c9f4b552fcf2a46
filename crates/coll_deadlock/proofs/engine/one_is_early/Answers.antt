use Rattle.coll_deadlock.proofs.CoreRows.{one_is_early}
use Rattle.coll_deadlock.proofs.engine.one_is_early.Goals as goal

pub returns : goal.returns
returns c = one_is_early
