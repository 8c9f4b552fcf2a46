use Rattle.coll_serial.proofs.Handing.{kept_step}
use Rattle.coll_serial.proofs.engine.Engine.act.Goals as goal

pub invariant_of-self : goal.invariant_of-self
invariant_of-self c =
    kept_step c.self.inside.core c.step.new.self c.self.inside.communicators c.self.inside.outcome_lengths.items c.step.result
    c.self.invariant c.step.ensures.steps c.step.ensures.err
