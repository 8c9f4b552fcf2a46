use Rattle.coll_lists.proofs.Keeping.{KeepsTheRest-front}
use Rattle.coll_lists.proofs.laws.move_front_keeps_the_rest.Goals as goal

pub returns : goal.returns
returns c = λ node list lists low. KeepsTheRest-front node list lists low
