use Rattle.std.proofs.Common.{subst}
use Rattle.coll_core.specs.Cores.{Parts}
use Rattle.coll_serial.specs.Progress.{Advances}
use Rattle.coll_serial.proofs.Advancing.{advances_own}
use Rattle.coll_serial.proofs.Keeping.{kept_advanced}
use Rattle.coll_serial.proofs.engine.Engine.combine.Goals as goal

pub invariant_of-self : goal.invariant_of-self
invariant_of-self c =
    kept_advanced c.self.inside.core c.commit.new.self c.self.inside.communicators c.self.inside.outcome_lengths.items 1 c.self.invariant
    (advances_own c.self.inside.core c.commit.new.self c.in-Ok.done.piece c.in-Ok-commit.stepped c.in-Ok-commit.ensures.own)

pub returns-in-Ok-commit-clause-advances : goal.returns-in-Ok-commit-clause-advances
returns-in-Ok-commit-clause-advances c =
    subst (λ (p : Parts). Advances p c.commit.new.self 1) c.self.view_is
    (advances_own c.self.inside.core c.commit.new.self c.in-Ok.done.piece c.in-Ok-commit.stepped c.in-Ok-commit.ensures.own)
