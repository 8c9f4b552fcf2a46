use Rattle.coll_deadlock.proofs.Stalling.{never_here_ends}
use Rattle.coll_deadlock.proofs.engine.never_here_ends.Goals as goal

pub returns : goal.returns
returns c = never_here_ends c.args.core.now c.quiet_is_settled.ensures
