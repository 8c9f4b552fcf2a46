use Rattle.coll_machine.proofs.Rooms.{legal_goes_on}
use Rattle.coll_machine.proofs.laws.legal_goes_on.Goals as goal

pub returns : goal.returns
returns c = legal_goes_on
