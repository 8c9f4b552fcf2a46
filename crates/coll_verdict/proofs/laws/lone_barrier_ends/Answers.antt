use Rattle.coll_verdict.proofs.Rows.{lone_barrier_ends}
use Rattle.coll_verdict.proofs.laws.lone_barrier_ends.Goals as goal

pub returns : goal.returns
returns c = lone_barrier_ends
