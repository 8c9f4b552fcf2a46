-- the theorem of Serving
use Rattle.coll_sched.proofs.Serving.{held_value_holds}
use Rattle.coll_sched.proofs.laws.holds_value.Goals as goal

pub returns : goal.returns
returns c = held_value_holds
