use Rattle.coll_verdict.proofs.LastRows.{crossed_run_is_last}
use Rattle.coll_verdict.proofs.laws.crossed_run_is_last.Goals as goal

pub returns : goal.returns
returns c = crossed_run_is_last
