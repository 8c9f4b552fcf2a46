use Rattle.coll_core.proofs.step.Wake.{brings, delivers}
use Rattle.coll_core.proofs.step.NextOfReady.{first_before}
use Rattle.coll_core.proofs.engine.stepping.deliver.Goals as goal

pub returns-clause-delivers : goal.returns-clause-delivers
returns-clause-delivers c =
    delivers c.args.arena.now _ c.args.matches.now c.args.sent.key c.args.sent.to c.in-Some.ticket c.in-Some.ensures.can_receive c.in-Ok.ensures.puts

pub returns-clause-first : goal.returns-clause-first
returns-clause-first c =
    first_before c.args.arena.now _ c.in-Some.ticket.slot _ c.is_sound.ensures c.in-Some.ensures.can_receive.waits c.in-Ok.ensures.shifted

pub returns-clause-others : goal.returns-clause-others
returns-clause-others c =
    brings c.args.arena.now _ c.args.matches.now c.args.sent.key c.args.sent.to c.in-Some.ticket c.in-Some.ensures.can_receive c.in-Ok.ensures.shifted
