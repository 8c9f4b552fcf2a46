use Rattle.coll_deadlock.proofs.Hearing.{quiet_is_settled}
use Rattle.coll_deadlock.proofs.engine.quiet_is_settled.Goals as goal

pub returns : goal.returns
returns c = quiet_is_settled c.args.core.now c.lock_is_free.ensures c.done_once_heard.ensures
