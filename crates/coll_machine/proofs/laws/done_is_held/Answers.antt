use Rattle.coll_machine.proofs.Held.{done_is_held}
use Rattle.coll_machine.proofs.laws.done_is_held.Goals as goal

pub returns : goal.returns
returns c = done_is_held
