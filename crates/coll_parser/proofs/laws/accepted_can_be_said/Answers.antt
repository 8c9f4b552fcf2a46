use Rattle.coll_parser.proofs.Accepted.{accepted-said}
use Rattle.coll_parser.proofs.laws.accepted_can_be_said.Goals as goal

pub returns : goal.returns
returns c = λ lines h e. accepted-said lines h e
