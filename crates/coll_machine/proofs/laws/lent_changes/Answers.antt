use Rattle.coll_machine.proofs.Lending.{lent_changes}
use Rattle.coll_machine.proofs.laws.lent_changes.Goals as goal

pub returns : goal.returns
returns c = lent_changes
