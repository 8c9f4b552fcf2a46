use Rattle.coll_verdict.proofs.Passing.{always_is_always_by}
use Rattle.coll_verdict.proofs.laws.always_is_always_by.Goals as goal

pub returns : goal.returns
returns c = always_is_always_by
