use Rattle.coll_ops.proofs.Associating.{combinations_associate}
use Rattle.coll_ops.proofs.laws.combinations_associate.Goals as goal

pub returns : goal.returns
returns c = combinations_associate
