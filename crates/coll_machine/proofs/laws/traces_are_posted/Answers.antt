use Rattle.coll_machine.proofs.Held.{traces_are_posted}
use Rattle.coll_machine.proofs.laws.traces_are_posted.Goals as goal

pub returns : goal.returns
returns c = traces_are_posted
