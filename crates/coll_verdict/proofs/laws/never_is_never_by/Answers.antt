use Rattle.coll_verdict.proofs.Passing.{never_is_never_by}
use Rattle.coll_verdict.proofs.laws.never_is_never_by.Goals as goal

pub returns : goal.returns
returns c = never_is_never_by
