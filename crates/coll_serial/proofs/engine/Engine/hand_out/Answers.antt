use Rattle.std.proofs.Common.{◌∙◌, ◌+◌, refl}
use Rattle.coll_serial.proofs.Advancing.{advances_none, advances_then, finished, moved, outside_finished, outside_moved}
use Rattle.coll_serial.proofs.engine.Engine.hand_out.Goals as goal

pub loop-work-init : goal.loop-work-init
loop-work-init c = record { progresses = (0, advances_none c.args.self.now); running_is = refl }

pub loop-work-preserved-in-Moved : goal.loop-work-preserved-in-Moved
loop-work-preserved-in-Moved c =
    let before = c.loop-work.invariant in
    record {
      progresses = (
        before.progresses.0 + 1,
        advances_then c.args.self.now c.loop-work.self c.act.new.self before.progresses.0 1
            before.progresses.1 (moved c.loop-work.self c.loop-work.self c.act.new.self refl c.in_ok-act.field-0 c.in-Moved.is c.in_ok-act.ensures.steps),
      );
      running_is = outside_moved c.loop-work.self c.act.new.self c.in_ok-act.field-0 c.in-Moved.is c.in_ok-act.ensures.steps ∙ before.running_is;
    }

pub loop-work-preserved : goal.loop-work-preserved
loop-work-preserved c =
    let before = c.loop-work.invariant in
    record {
      progresses = (
        before.progresses.0 + 1,
        advances_then c.args.self.now c.loop-work.self c.act.new.self before.progresses.0 1
            before.progresses.1 (finished c.loop-work.self c.loop-work.self c.act.new.self refl c.in_ok-act.field-0 c.in-Finished.is c.in_ok-act.ensures.steps),
      );
      running_is = outside_finished c.loop-work.self c.act.new.self c.in_ok-act.field-0 c.in-Finished.is c.in_ok-act.ensures.steps ∙ before.running_is;
    }
