use Rattle.coll_traced.proofs.Keepers.{step_ended}
use Rattle.coll_traced.proofs.traced_core.TracedCore.step.Goals as goal

pub invariant_of-self : goal.invariant_of-self
invariant_of-self g c =
    let s = c.self.inside in (
      step_ended s.config s.core c.step.new.self s.trace.entries s.trace.reserved c.step.result c.self.invariant.0 c.step.ensures.steps c.step.ensures.err,
      c.self.invariant.1,
    )
