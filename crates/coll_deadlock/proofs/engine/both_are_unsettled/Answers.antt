use Rattle.coll_deadlock.proofs.CoreRows.{both_are_unsettled}
use Rattle.coll_deadlock.proofs.engine.both_are_unsettled.Goals as goal

pub returns : goal.returns
returns c = both_are_unsettled
