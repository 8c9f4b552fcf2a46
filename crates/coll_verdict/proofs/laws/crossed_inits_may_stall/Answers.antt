use Rattle.coll_verdict.proofs.Rows.{crossed_inits_may_stall}
use Rattle.coll_verdict.proofs.laws.crossed_inits_may_stall.Goals as goal

pub returns : goal.returns
returns c = crossed_inits_may_stall
