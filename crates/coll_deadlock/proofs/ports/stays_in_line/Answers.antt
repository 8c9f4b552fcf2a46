use Rattle.coll_deadlock.proofs.Staying.{stays_in_line}
use Rattle.coll_deadlock.proofs.ports.stays_in_line.Goals as goal

pub returns : goal.returns
returns c = stays_in_line
