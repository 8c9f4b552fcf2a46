use Rattle.coll_refinement.proofs.tables.WholeCalls.{lock_is_free}
use Rattle.coll_core.specs.Cores.{tables}
use Rattle.coll_core.proofs.laws.lock_is_free.Goals as goal

pub returns : goal.returns
returns c = lock_is_free (tables c.args.core.now) c.check.ensures
