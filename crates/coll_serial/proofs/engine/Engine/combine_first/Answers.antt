use Rattle.std.proofs.Common.{◌≡◌, ◌∙◌}
use Rattle.coll_serial.proofs.Advancing.{finished, moved, quiet}
use Rattle.coll_serial.proofs.Keeping.{kept_advanced}
use Rattle.coll_serial.proofs.engine.Engine.combine_first.Goals as goal

pub invariant_of-self-in-Finished : goal.invariant_of-self-in-Finished
invariant_of-self-in-Finished c =
    let p = c.self.inside.core in let k = c.hand_out_short.new.self in
    let same : k ≡ p = c.hand_out_short.ensures.none c.in_default.is in
    kept_advanced p c.step.new.self c.self.inside.communicators c.self.inside.outcome_lengths.items 1 c.self.invariant
    (finished k p c.step.new.self same c.in_ok-step.field-0 c.in-Finished.is c.in_ok-step.ensures.steps)

pub returns-in-Quiet-clause-advances : goal.returns-in-Quiet-clause-advances
returns-in-Quiet-clause-advances c =
    let k = c.hand_out_short.new.self in
    let same : k ≡ c.self.inside.core = c.hand_out_short.ensures.none c.in_default.is in
    quiet k c.args.self.now c.step.new.self (same ∙ c.self.view_is) c.in_ok-step.field-0 c.in-Quiet.is c.in_ok-step.ensures.steps

pub returns-in-Moved-clause-advances : goal.returns-in-Moved-clause-advances
returns-in-Moved-clause-advances c =
    let k = c.hand_out_short.new.self in
    let same : k ≡ c.self.inside.core = c.hand_out_short.ensures.none c.in_default.is in
    moved k c.args.self.now c.step.new.self (same ∙ c.self.view_is) c.in_ok-step.field-0 c.in-Moved.is c.in_ok-step.ensures.steps

pub returns-in-Finished-clause-advances : goal.returns-in-Finished-clause-advances
returns-in-Finished-clause-advances c =
    let k = c.hand_out_short.new.self in
    let same : k ≡ c.self.inside.core = c.hand_out_short.ensures.none c.in_default.is in
    finished k c.args.self.now c.step.new.self (same ∙ c.self.view_is) c.in_ok-step.field-0 c.in-Finished.is c.in_ok-step.ensures.steps
