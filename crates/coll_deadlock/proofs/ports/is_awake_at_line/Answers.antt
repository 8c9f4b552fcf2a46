use Rattle.coll_deadlock.proofs.PortRows.{is_awake_at_line}
use Rattle.coll_deadlock.proofs.ports.is_awake_at_line.Goals as goal

pub returns : goal.returns
returns c = is_awake_at_line
