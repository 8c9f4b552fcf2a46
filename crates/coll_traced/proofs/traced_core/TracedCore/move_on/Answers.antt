use Rattle.coll_traced.proofs.Keepers.{step_ended}
use Rattle.coll_traced.proofs.traced_core.TracedCore.move_on.Goals as goal

pub invariant_of-self : goal.invariant_of-self
invariant_of-self g c =
    let s = c.self.inside in (
      step_ended s.config s.core c.move_on.new.self s.trace.entries s.trace.reserved c.move_on.result c.self.invariant.0
          c.move_on.ensures.steps c.move_on.ensures.err,
      c.self.invariant.1,
    )
