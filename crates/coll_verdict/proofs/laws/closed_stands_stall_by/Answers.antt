use Rattle.coll_verdict.proofs.Blocking.{closed_stands_stall_by}
use Rattle.coll_verdict.proofs.laws.closed_stands_stall_by.Goals as goal

pub returns : goal.returns
returns c = closed_stands_stall_by
