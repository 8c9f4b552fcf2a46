use Rattle.std.proofs.Common.{◌<◌, ◌^◌, arith}
use Rattle.coll_core.specs.Steps.{left}
use Rattle.coll_core.proofs.step.Settle.{left_fits, ran_more, ran_none}
use Rattle.coll_core.proofs.step.Step.{first_of}
use Rattle.coll_core.proofs.engine.Core.settle.Goals as goal

pub loop-ticket-init : goal.loop-ticket-init
loop-ticket-init c = ran_none c.args.self.now

pub next_of-action-requires : goal.next_of-action-requires
next_of-action-requires c = first_of _ c.loop-ticket.self c.in-Some.ticket c.self-in-loop-ticket.view_is (c.first.ensures.found c.in-Some.ticket c.in-Some.is)

pub overflow_add-steps : goal.overflow_add-steps
overflow_add-steps c =
    let most : left c.args.self.now < 2 ^ 63 = left_fits _ c.args.self.now c.self.view_is c.self.invariant c.is_sound.ensures in
    omega (arith, most, c.loop-ticket.invariant.lowers)

pub loop-ticket-preserved : goal.loop-ticket-preserved
loop-ticket-preserved c =
    ran_more c.args.self.now c.loop-ticket.self c.act.new.self c.loop-ticket.steps c.in_ok-act.field-0 c.loop-ticket.invariant c.in_ok-act.ensures.acts
