use Rattle.coll_verdict.proofs.Lasting.{stalls_at_last}
use Rattle.coll_verdict.proofs.laws.stalls_at_last.Goals as goal

pub returns : goal.returns
returns c = stalls_at_last
