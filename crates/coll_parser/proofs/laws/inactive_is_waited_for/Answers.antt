use Rattle.coll_parser.proofs.Inactive.{inactive-over, over-inactive}
use Rattle.coll_parser.proofs.laws.inactive_is_waited_for.Goals as goal

pub returns : goal.returns
returns c = λ q commands. (inactive-over q commands, over-inactive q commands)
