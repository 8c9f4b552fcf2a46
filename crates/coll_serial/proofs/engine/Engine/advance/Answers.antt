use Rattle.coll_serial.proofs.Advancing.{finished, moved}
use Rattle.coll_serial.proofs.Keeping.{kept_advanced}
use Rattle.std.proofs.Common.{◌≡◌, ◌∙◌, refl, subst}
use Rattle.std.specs.Prelude.{IfOk, if◌then◌else◌}
use Rattle.coll_core.specs.declared.stepped.Stepped.{Stepped}
use Rattle.coll_core.specs.Cores.{Parts}
use Rattle.coll_core.specs.Steps.{Steps}
use Rattle.coll_serial.specs.Progress.{Advances}
use Rattle.coll_serial.proofs.engine.Engine.advance.Goals as goal

pub invariant_of-self-in-Finished : goal.invariant_of-self-in-Finished
invariant_of-self-in-Finished c =
    let p = c.self.inside.core in
    kept_advanced p c.move_on.new.self c.self.inside.communicators c.self.inside.outcome_lengths.items 1 c.self.invariant
    (finished p p c.move_on.new.self refl c.in_ok-move_on.field-0 c.in-Finished.is c.in_ok-move_on.ensures.steps)

-- where nothing was done, the rest is `combine_first`'s
pub returns-in-Quiet-clause-advances : goal.returns-in-Quiet-clause-advances
returns-in-Quiet-clause-advances c =
    let stays : c.move_on.new.self ≡ c.self.inside.core =
    subst (λ (s : Stepped). Steps c.self.inside.core c.move_on.new.self s) c.in-Quiet.is c.in_ok-move_on.ensures.steps in
    subst (λ (k : Parts). IfOk c.combine_first.result (λ acted. Advances k c.combine_first.new.self (if acted then 1 else 0)))
    (stays ∙ c.self.view_is) c.combine_first.ensures.advances

pub returns-in-Moved-clause-advances : goal.returns-in-Moved-clause-advances
returns-in-Moved-clause-advances c =
    moved c.self.inside.core c.args.self.now c.move_on.new.self c.self.view_is c.in_ok-move_on.field-0 c.in-Moved.is c.in_ok-move_on.ensures.steps

pub returns-in-Finished-clause-advances : goal.returns-in-Finished-clause-advances
returns-in-Finished-clause-advances c =
    finished c.self.inside.core c.args.self.now c.move_on.new.self c.self.view_is c.in_ok-move_on.field-0 c.in-Finished.is c.in_ok-move_on.ensures.steps
