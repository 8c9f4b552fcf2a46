use Rattle.coll_deadlock.proofs.Hearing.{none_early}
use Rattle.coll_deadlock.proofs.engine.none_is_early.Goals as goal

pub returns : goal.returns
returns c = none_early c.args.core.now c.between_calls.ensures c.lock_is_free.ensures c.done_once_heard.ensures
