use Rattle.coll_deadlock.proofs.Locking.{always_here_is_no_end}
use Rattle.coll_deadlock.proofs.ports.always_here_is_no_end.Goals as goal

pub returns : goal.returns
returns c = always_here_is_no_end
