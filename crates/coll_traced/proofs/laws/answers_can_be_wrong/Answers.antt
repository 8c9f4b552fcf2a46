use Rattle.coll_traced.proofs.Rows.{answers_can_be_wrong}
use Rattle.coll_traced.proofs.laws.answers_can_be_wrong.Goals as goal

pub returns : goal.returns
returns c = answers_can_be_wrong
