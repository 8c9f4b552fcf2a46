-- the theorem of Track
use Rattle.coll_sched.proofs.Track.{heart_holds}
use Rattle.coll_sched.proofs.laws.heart.Goals as goal

pub returns : goal.returns
returns c = heart_holds
