use Rattle.coll_deadlock.proofs.Locking.{no_stall_under_lock}
use Rattle.coll_deadlock.proofs.ports.no_stall_under_lock.Goals as goal

pub returns : goal.returns
returns c = no_stall_under_lock
