-- the theorem of Rounds
use Rattle.coll_sched.proofs.Rounds.{lock_step_agrees}
use Rattle.coll_sched.proofs.laws.rests_on_heard.Goals as goal

pub returns : goal.returns
returns c = lock_step_agrees
