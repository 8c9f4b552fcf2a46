use Rattle.coll_verdict.proofs.LastRows.{lone_barrier_never_stalls}
use Rattle.coll_verdict.proofs.laws.lone_barrier_never_stalls.Goals as goal

pub returns : goal.returns
returns c = lone_barrier_never_stalls
