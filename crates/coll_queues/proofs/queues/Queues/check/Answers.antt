use Rattle.std.proofs.Common.{subst}
use Rattle.coll_queues.specs.Sound.{IsSound}
use Rattle.coll_queues.proofs.Comms.{sound}
use Rattle.coll_queues.proofs.queues.Queues.check.Goals as goal

pub returns : goal.returns
returns c = subst (λ v. IsSound v) c.self.view_is (sound _ c.self.invariant)
