use Rattle.coll_core.proofs.step.Advance.{gone_on}
use Rattle.coll_core.proofs.engine.stepping.advance.Goals as goal

pub returns : goal.returns
returns c =
    gone_on c.args.arena.now _ c.args.matches.now c.args.ticket c.in-Ok.request.now c.advance.new.self c.list-list.result c.is_end.result
    c.is_sound.ensures c.requires.live c.in-Ok.ensures.found c.advance.ensures c.list-list.ensures.stands
    c.list-list.ensures.list c.place.ensures.puts c.place.ensures.stays c.place.ensures.placed c.is_end.ensures
