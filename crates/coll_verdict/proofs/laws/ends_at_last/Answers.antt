use Rattle.coll_verdict.proofs.Lasting.{ends_at_last}
use Rattle.coll_verdict.proofs.laws.ends_at_last.Goals as goal

pub returns : goal.returns
returns c = ends_at_last
