use Rattle.coll_deadlock.proofs.PortRows.{other_is_at_no_line}
use Rattle.coll_deadlock.proofs.ports.other_is_at_no_line.Goals as goal

pub returns : goal.returns
returns c = other_is_at_no_line
