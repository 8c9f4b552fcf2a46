use Rattle.coll_deadlock.proofs.PortRows.{nobody_is_at_line}
use Rattle.coll_deadlock.proofs.ports.nobody_is_at_line.Goals as goal

pub returns : goal.returns
returns c = nobody_is_at_line
