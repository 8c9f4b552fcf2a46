use Rattle.coll_core.proofs.start.StartAndFree.{freed_core, frees, frees_alone}
use Rattle.coll_core.proofs.engine.Core.free.Goals as goal

pub invariant_of-self : goal.invariant_of-self
invariant_of-self c =
    freed_core _ c.args.self.now c.self.view_is c.retire.new.self c.args.ticket c.args.rank c.in-Ok.field-0 c.self.invariant
    c.in_ok-may_free.ensures.refused c.in_ok-may_free.ensures.named c.in-Ok.ensures.found c.in-Ok.ensures.puts

pub returns-clause-frees : goal.returns-clause-frees
returns-clause-frees c =
    frees _ c.args.self.now c.self.view_is c.retire.new.self c.args.ticket c.args.rank c.in-Ok.field-0 c.self.invariant
    c.in_ok-may_free.ensures.refused c.in_ok-may_free.ensures.named c.in-Ok.ensures.found c.in-Ok.ensures.puts

pub returns-clause-progress : goal.returns-clause-progress
returns-clause-progress c =
    frees_alone _ c.args.self.now c.self.view_is c.retire.new.self c.args.ticket c.args.rank c.in-Ok.field-0 c.self.invariant
    c.in_ok-may_free.ensures.refused c.in_ok-may_free.ensures.named c.in-Ok.ensures.found c.in-Ok.ensures.puts c.is_sound.ensures c.in-Ok.ensures.retired
