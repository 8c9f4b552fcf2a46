use Rattle.coll_machine.proofs.Running.{traces_are_run}
use Rattle.coll_machine.proofs.laws.traces_are_run.Goals as goal

pub returns : goal.returns
returns c = traces_are_run
