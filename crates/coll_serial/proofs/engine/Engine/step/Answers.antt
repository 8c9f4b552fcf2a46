use Rattle.coll_serial.proofs.Advancing.{acted, advances_none, advances_then}
use Rattle.coll_serial.proofs.engine.Engine.step.Goals as goal

pub loop-actions-init : goal.loop-actions-init
loop-actions-init c = advances_none c.args.self.now

pub loop-actions-preserved : goal.loop-actions-preserved
loop-actions-preserved c =
    advances_then c.args.self.now c.loop-actions.self c.advance.new.self c.loop-actions.actions 1 c.loop-actions.invariant
    (acted c.loop-actions.self c.advance.new.self c.in_ok-advance.field-0 c.if-not-branch.false c.in_ok-advance.ensures.advances)
