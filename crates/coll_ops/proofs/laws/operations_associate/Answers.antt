use Rattle.coll_ops.proofs.Associating.{operations_associate}
use Rattle.coll_ops.proofs.laws.operations_associate.Goals as goal

pub returns : goal.returns
returns c = operations_associate
