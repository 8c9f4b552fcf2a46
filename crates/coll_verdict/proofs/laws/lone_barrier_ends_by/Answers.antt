use Rattle.coll_verdict.proofs.WaitingRows.{lone_barrier_ends_by}
use Rattle.coll_verdict.proofs.laws.lone_barrier_ends_by.Goals as goal

pub returns : goal.returns
returns c = lone_barrier_ends_by
