-- the theorem of Quiet
use Rattle.coll_sched.proofs.Quiet.{finishes}
use Rattle.coll_sched.proofs.laws.quiet_is_finished.Goals as goal

pub returns : goal.returns
returns c = finishes
