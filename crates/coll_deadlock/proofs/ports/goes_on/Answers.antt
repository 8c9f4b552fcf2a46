use Rattle.coll_deadlock.proofs.Blocking.{goes_on}
use Rattle.coll_deadlock.proofs.ports.goes_on.Goals as goal

pub returns : goal.returns
returns g c = goes_on c.args.traced.now.core c.knows_core.ensures.between c.knows_core.ensures.free c.knows_core.ensures.heard
