use Rattle.coll_core.proofs.retire.Retire.{ended_lists}
use Rattle.coll_core.proofs.engine.retiring.end.Goals as goal

pub returns-clause-lists : goal.returns-clause-lists
returns-clause-lists c = ended_lists c.args.arena.now c.retire.new.self c.args.ticket c.requires.named c.in-Ok.ensures.retired c.in-Ok.ensures.puts
