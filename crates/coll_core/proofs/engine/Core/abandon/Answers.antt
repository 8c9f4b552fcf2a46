use Rattle.std.proofs.Common.{refl}
use Rattle.coll_core.proofs.commit.Abandon.{returned}
use Rattle.coll_core.proofs.engine.Core.abandon.Goals as goal

pub invariant_of-self : goal.invariant_of-self
invariant_of-self c =
    (returned c.self.inside.ranks c.self.inside.starts c.self.inside.trace c.self.inside.arena c.shift_front.new.self c.self.inside.queues c.self.inside.matches
    c.args.self.now c.args.work c.ticket-ticket.result c.ticket-ticket.ensures c.self.view_is c.is_sound.ensures c.self.invariant
    (c.is_out-is_out.ensures.0 c.if-not-is_out.false) c.in-Ok.ensures.shifted c.in-Ok.ensures.puts).0

pub returns-clause-out : goal.returns-clause-out
returns-clause-out c = (λ yes. c.is_out-is_out.ensures.0 c.if-not-is_out.false, λ out. refl)

pub returns-clause-back : goal.returns-clause-back
returns-clause-back c =
    (returned c.self.inside.ranks c.self.inside.starts c.self.inside.trace c.self.inside.arena c.shift_front.new.self c.self.inside.queues c.self.inside.matches
    c.args.self.now c.args.work c.ticket-ticket.result c.ticket-ticket.ensures c.self.view_is c.is_sound.ensures c.self.invariant
    (c.is_out-is_out.ensures.0 c.if-not-is_out.false) c.in-Ok.ensures.shifted c.in-Ok.ensures.puts).1
