use Rattle.coll_deadlock.proofs.Stalling.{quiet_stalls}
use Rattle.coll_deadlock.proofs.engine.quiet_stalls.Goals as goal

pub returns : goal.returns
returns c = quiet_stalls c.args.core.now c.quiet_is_settled.ensures
