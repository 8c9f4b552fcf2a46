-- the theorem of Orders
use Rattle.coll_sched.proofs.Orders.{commutes}
use Rattle.coll_sched.proofs.laws.writes_commute.Goals as goal

pub returns : goal.returns
returns c = commutes
