use Rattle.std.proofs.Common.{Result, sym, subst}
use Rattle.std.specs.Prelude.{OnOk}
use Rattle.coll_kinds.specs.declared.refusal.Refusal.{Refusal}
use Rattle.coll_core.specs.declared.stepped.Stepped.{Stepped}
use Rattle.coll_core.specs.Cores.{Parts}
use Rattle.coll_core.specs.Steps.{CommitsOwn}
use Rattle.coll_serial.specs.Progress.{Advances}
use Rattle.coll_serial.proofs.Advancing.{advances_own}
use Rattle.coll_serial.proofs.Handing.{kept_committed}
use Rattle.coll_serial.proofs.engine.Engine.commit.Goals as goal
use Rattle.coll_serial.proofs.engine.Engine.commit.Goals.{in-Ok, in-Err}

pub invariant_of-self : goal.invariant_of-self
invariant_of-self c =
    kept_committed c.self.inside.core c.commit.new.self c.self.inside.communicators c.self.inside.outcome_lengths.items
    c.args.done.piece c.commit.result c.self.invariant c.commit.ensures.own c.commit.ensures.err

pub returns-clause-advances : goal.returns-clause-advances
returns-clause-advances c =
    elim c.match-commit.branch [
      | in-Ok w ↦ subst (λ (o : Result (Unit {0}) Refusal). OnOk o (Advances c.args.self.now c.commit.new.self 1)) (sym w.result-is)
          (subst (λ (k : Parts). Advances k c.commit.new.self 1) c.self.view_is
          (advances_own c.self.inside.core c.commit.new.self c.args.done.piece w.in-Ok.stepped w.in-Ok.ensures.own))
      | in-Err w ↦ subst (λ (o : Result (Unit {0}) Refusal). OnOk o (Advances c.args.self.now c.commit.new.self 1)) (sym w.result-is) tt
    ]

pub returns-clause-commits : goal.returns-clause-commits
returns-clause-commits c =
    elim c.match-commit.branch [
      | in-Ok w ↦ subst (λ (o : Result (Unit {0}) Refusal). OnOk o
          ((stepped : Stepped) × CommitsOwn c.args.self.now c.commit.new.self c.args.done.piece stepped)) (sym w.result-is)
          (w.in-Ok.stepped, subst (λ (k : Parts). CommitsOwn k c.commit.new.self c.args.done.piece w.in-Ok.stepped) c.self.view_is w.in-Ok.ensures.own)
      | in-Err w ↦ subst (λ (o : Result (Unit {0}) Refusal). OnOk o
          ((stepped : Stepped) × CommitsOwn c.args.self.now c.commit.new.self c.args.done.piece stepped)) (sym w.result-is) tt
    ]
