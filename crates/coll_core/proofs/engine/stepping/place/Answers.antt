use Rattle.std.proofs.Common.{sym}
use Rattle.coll_core.proofs.step.Advance.{placed, placed_behind, placed_there}
use Rattle.coll_core.proofs.engine.stepping.place.Goals as goal

pub returns-then-is_on-clause-puts : goal.returns-then-is_on-clause-puts
returns-then-is_on-clause-puts c = placed c.args.arena.now c.args.ticket _ c.is_sound.ensures (sym c.if-is_on.ensures)

pub returns-then-is_on-clause-placed : goal.returns-then-is_on-clause-placed
returns-then-is_on-clause-placed c = placed_there c.args.arena.now c.args.ticket _ (sym c.if-is_on.ensures)

pub returns-clause-placed : goal.returns-clause-placed
returns-clause-placed c = placed_behind c.args.arena.now c.shift.new.self c.args.ticket _ c.requires.live (sym c.if-is_on.ensures) c.in-Ok.ensures.shifted
