-- the theorem of Writers
use Rattle.coll_sched.proofs.Writers.{rests_on_writers}
use Rattle.coll_sched.proofs.laws.rests_on_writers.Goals as goal

pub returns : goal.returns
returns c = rests_on_writers
