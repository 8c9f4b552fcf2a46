use Rattle.coll_parser.specs.Histories.{beginning}
use Rattle.coll_parser.proofs.First.{first_fault}
use Rattle.coll_parser.proofs.laws.first_fault_is_first.Goals as goal

pub returns : goal.returns
returns c = λ lines fault e. first_fault 1 beginning lines fault e
