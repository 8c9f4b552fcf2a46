use Rattle.coll_machine.proofs.Rooms.{reserved_changes}
use Rattle.coll_machine.proofs.laws.reserved_changes.Goals as goal

pub returns : goal.returns
returns c = reserved_changes
