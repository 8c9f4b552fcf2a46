use Rattle.coll_machine.proofs.Rows.{barrier_waits}
use Rattle.coll_machine.proofs.laws.barrier_waits.Goals as goal

pub returns : goal.returns
returns c = barrier_waits
