use Rattle.coll_verdict.proofs.WaitingRows.{crossed_inits_never_stall_by}
use Rattle.coll_verdict.proofs.laws.crossed_inits_never_stall_by.Goals as goal

pub returns : goal.returns
returns c = crossed_inits_never_stall_by
