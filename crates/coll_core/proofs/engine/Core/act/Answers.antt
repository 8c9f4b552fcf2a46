use Rattle.std.proofs.Common.{subst}
use Rattle.coll_sched.specs.declared.action.Action.{Action}
use Rattle.coll_core.specs.Steps.{IsActing}
use Rattle.coll_core.proofs.engine.Core.act.Goals as goal

pub send-requires : goal.send-requires
send-requires c = subst (λ (a : Action). IsActing c.args.self.now c.args.ticket a) c.in-Send.is c.requires

pub receive-requires : goal.receive-requires
receive-requires c = subst (λ (a : Action). IsActing c.args.self.now c.args.ticket a) c.in-Recv.is c.requires
