-- the theorem of Quiet
use Rattle.coll_sched.proofs.Quiet.{finishes_heard}
use Rattle.coll_sched.proofs.laws.quiet_has_heard.Goals as goal

pub returns : goal.returns
returns c = finishes_heard
