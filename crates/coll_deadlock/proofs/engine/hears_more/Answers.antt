use Rattle.coll_deadlock.proofs.CoreRows.{hears_more}
use Rattle.coll_deadlock.proofs.engine.hears_more.Goals as goal

pub returns : goal.returns
returns c = hears_more
