use Rattle.coll_replay.proofs.Rows.{unmet_barrier_stalls_in_some}
use Rattle.coll_replay.proofs.laws.unmet_barrier_stalls_in_some.Goals as goal

pub returns : goal.returns
returns c = unmet_barrier_stalls_in_some
