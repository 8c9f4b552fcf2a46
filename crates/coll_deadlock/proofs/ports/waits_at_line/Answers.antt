use Rattle.coll_deadlock.proofs.PortRows.{waits_at_line}
use Rattle.coll_deadlock.proofs.ports.waits_at_line.Goals as goal

pub returns : goal.returns
returns c = waits_at_line
