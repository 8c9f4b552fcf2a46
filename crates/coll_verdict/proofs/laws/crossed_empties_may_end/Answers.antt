use Rattle.coll_verdict.proofs.Rows.{crossed_empties_may_end}
use Rattle.coll_verdict.proofs.laws.crossed_empties_may_end.Goals as goal

pub returns : goal.returns
returns c = crossed_empties_may_end
