use Rattle.coll_verdict.proofs.Lasting.{last_is_stalled}
use Rattle.coll_verdict.proofs.laws.last_is_stalled.Goals as goal

pub returns : goal.returns
returns c = last_is_stalled
