use Rattle.coll_deadlock.proofs.Registering.{registers_in_line}
use Rattle.coll_deadlock.proofs.ports.registers_in_line.Goals as goal

pub returns : goal.returns
returns c = registers_in_line
