use Rattle.coll_plans.proofs.JoinRows.{others_are_not_joined}
use Rattle.coll_plans.proofs.laws.others_are_not_joined.Goals as goal

pub returns : goal.returns
returns c = others_are_not_joined
