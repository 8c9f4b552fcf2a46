-- the theorem of Views
use Rattle.coll_sched.proofs.Views.{skips}
use Rattle.coll_sched.proofs.laws.skips_empty_rounds.Goals as goal

pub returns : goal.returns
returns c = skips
