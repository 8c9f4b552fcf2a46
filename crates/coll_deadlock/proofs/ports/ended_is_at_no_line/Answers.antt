use Rattle.coll_deadlock.proofs.PortRows.{ended_is_at_no_line}
use Rattle.coll_deadlock.proofs.ports.ended_is_at_no_line.Goals as goal

pub returns : goal.returns
returns c = ended_is_at_no_line
