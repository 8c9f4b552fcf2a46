use Rattle.coll_deadlock.proofs.Running.{begins_where_opened}
use Rattle.coll_deadlock.proofs.engine.begins_where_opened.Goals as goal

pub returns : goal.returns
returns c = begins_where_opened
