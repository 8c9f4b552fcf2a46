use Rattle.coll_deadlock.proofs.Lining.{open_at_lines}
use Rattle.coll_deadlock.proofs.ports.open_at_lines.Goals as goal

pub returns : goal.returns
returns c = open_at_lines
