use Rattle.coll_deadlock.proofs.Blocking.{stall_is_stall}
use Rattle.coll_deadlock.proofs.ports.stall_is_stall.Goals as goal

pub returns : goal.returns
returns g c = stall_is_stall c.args.traced.now c.knows_core.ensures.free c.knows_core.ensures.heard c.knows_core.ensures.groups
