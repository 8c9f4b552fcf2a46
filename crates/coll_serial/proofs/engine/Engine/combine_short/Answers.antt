use Rattle.std.proofs.Common.{subst}
use Rattle.coll_core.specs.Cores.{Parts}
use Rattle.coll_serial.specs.Progress.{Advances}
use Rattle.coll_serial.proofs.Advancing.{advances_commit}
use Rattle.coll_serial.proofs.Keeping.{kept_advanced}
use Rattle.coll_serial.proofs.engine.Engine.combine_short.Goals as goal

pub invariant_of-self : goal.invariant_of-self
invariant_of-self c =
    kept_advanced c.self.inside.core c.commit_short.new.self c.self.inside.communicators c.self.inside.outcome_lengths.items 1 c.self.invariant
    (advances_commit c.self.inside.core c.commit_short.new.self c.run.result c.in-Ok.stepped c.in-Ok.ensures.steps)

pub returns : goal.returns
returns c =
    subst (λ (p : Parts). Advances p c.commit_short.new.self 1) c.self.view_is
    (advances_commit c.self.inside.core c.commit_short.new.self c.run.result c.in-Ok.stepped c.in-Ok.ensures.steps)
