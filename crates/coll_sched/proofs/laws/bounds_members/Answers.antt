-- the theorem of Orders
use Rattle.coll_sched.proofs.Orders.{bounds_members}
use Rattle.coll_sched.proofs.laws.bounds_members.Goals as goal

pub returns : goal.returns
returns c = bounds_members
