use Rattle.coll_deadlock.proofs.Lining.{noted_at_lines}
use Rattle.coll_deadlock.proofs.ports.noted_at_lines.Goals as goal

pub returns : goal.returns
returns c = noted_at_lines
