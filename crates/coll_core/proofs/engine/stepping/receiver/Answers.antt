use Rattle.std.proofs.Common.{◌∙◌, sym}
use Rattle.coll_core.proofs.step.Wake.{is_receiver}
use Rattle.coll_core.proofs.engine.stepping.receiver.Goals as goal

pub returns-then-can_receive-clause-can_receive : goal.returns-then-can_receive-clause-can_receive
returns-then-can_receive-clause-can_receive c =
    is_receiver c.args.arena.now c.args.matches.now c.args.sent.key c.args.sent.to c.in_ok-slot.slot c.in_ok-ticket.ticket c.in-Ok.request.now
    (sym c.requires.seat ∙ c.in_ok-slot.was) (sym c.in_ok-ticket.was ∙ c.ticket_at.ensures) c.in-Ok.ensures.found
    c.if-is_on.ensures (c.can_receive.ensures.0 c.if-can_receive.true)
