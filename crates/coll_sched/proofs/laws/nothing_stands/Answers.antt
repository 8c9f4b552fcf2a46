-- the theorem of Views
use Rattle.coll_sched.proofs.Views.{empties}
use Rattle.coll_sched.proofs.laws.nothing_stands.Goals as goal

pub returns : goal.returns
returns c = empties
