use Rattle.coll_lists.proofs.Keeping.{KeepsTheRest-back}
use Rattle.coll_lists.proofs.laws.move_back_keeps_the_rest.Goals as goal

pub returns : goal.returns
returns c = λ node list lists low. KeepsTheRest-back node list lists low
