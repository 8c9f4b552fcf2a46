use Rattle.coll_deadlock.proofs.Lining.{stay_at_lines}
use Rattle.coll_deadlock.proofs.ports.stay_at_lines.Goals as goal

pub returns : goal.returns
returns c = stay_at_lines
