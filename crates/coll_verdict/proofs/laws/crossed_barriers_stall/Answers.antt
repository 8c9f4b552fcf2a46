use Rattle.coll_verdict.proofs.Rows.{crossed_barriers_stall}
use Rattle.coll_verdict.proofs.laws.crossed_barriers_stall.Goals as goal

pub returns : goal.returns
returns c = crossed_barriers_stall
