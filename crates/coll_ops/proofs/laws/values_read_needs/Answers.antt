use Rattle.coll_ops.proofs.Agreeing.{values_read_needs}
use Rattle.coll_ops.proofs.laws.values_read_needs.Goals as goal

pub returns : goal.returns
returns c = values_read_needs
