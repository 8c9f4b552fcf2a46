use Rattle.coll_serial.proofs.Keeping.{kept_finishings}
use Rattle.coll_serial.proofs.engine.Engine.settle.Goals as goal

pub invariant_of-self : goal.invariant_of-self
invariant_of-self c =
    kept_finishings c.self.inside.core c.settle.new.self c.self.inside.communicators c.self.inside.outcome_lengths.items
    c.self.invariant c.settle.ensures.setting c.settle.ensures.finishes

pub invariant_of-self-2 : goal.invariant_of-self-2
invariant_of-self-2 c =
    kept_finishings c.self.inside.core c.settle.new.self c.self.inside.communicators c.self.inside.outcome_lengths.items
    c.self.invariant c.settle.ensures.setting c.settle.ensures.finishes
