use Rattle.coll_deadlock.proofs.Stalling.{always_here_never_ends}
use Rattle.coll_deadlock.proofs.engine.always_here_never_ends.Goals as goal

pub returns : goal.returns
returns c = always_here_never_ends c.args.core.now
