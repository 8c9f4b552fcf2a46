use Rattle.coll_machine.proofs.Held.{runs_are_posted}
use Rattle.coll_machine.proofs.laws.runs_are_posted.Goals as goal

pub returns : goal.returns
returns c = runs_are_posted
