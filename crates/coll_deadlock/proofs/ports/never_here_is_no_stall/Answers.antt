use Rattle.coll_deadlock.proofs.Blocking.{never_here_is_no_stall}
use Rattle.coll_deadlock.proofs.ports.never_here_is_no_stall.Goals as goal

pub returns : goal.returns
returns g c = never_here_is_no_stall c.args.traced.now c.knows_core.ensures.free c.knows_core.ensures.heard c.knows_core.ensures.groups
