use Rattle.coll_ops.proofs.Associating.{operations_stay}
use Rattle.coll_ops.proofs.laws.operations_stay.Goals as goal

pub returns : goal.returns
returns c = operations_stay
