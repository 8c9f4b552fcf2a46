use Rattle.std.proofs.Common.{ap}
use Rattle.coll_refinement.specs.Requests.{Live}
use Rattle.coll_core.proofs.retire.Retire.{rested, rested_lists}
use Rattle.coll_core.proofs.engine.retiring.rest.Goals as goal

pub returns-clause-rests : goal.returns-clause-rests
returns-clause-rests c =
    rested c.args.arena.now c.reweigh.new.self _ c.args.ticket c.in-Ok.request.now c.take_outcome-bytes.new.self c.take_outcome-bytes.new.self.comm
    c.is_sound.ensures c.requires.named c.in-Ok.ensures.found c.take_outcome-bytes.ensures.left (ap (λ (q : Live). q.comm) c.take_outcome-bytes.ensures.left)
    c.in-Ok-reweigh.ensures.puts c.in-Ok-shift.ensures.puts

pub returns-clause-lists : goal.returns-clause-lists
returns-clause-lists c =
    rested_lists c.args.arena.now c.reweigh.new.self _ c.args.ticket c.take_outcome-bytes.new.self c.take_outcome-bytes.new.self.comm
    c.in-Ok-reweigh.ensures.reweighed c.in-Ok-shift.ensures.shifted c.in-Ok-shift.ensures.puts
