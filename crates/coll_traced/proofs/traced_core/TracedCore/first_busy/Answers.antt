use Rattle.std.proofs.Common.{ℕ, ◌<◌, subst}
use Rattle.std.specs.Prelude.{IfSome, IsNone}
use Rattle.coll_core.specs.Cores.{seen}
use Rattle.coll_report.specs.Told.{IsIdle}
use Rattle.coll_traced.specs.Closings.{IsBalanced, IsFirstBusy}
use Rattle.coll_traced.specs.Traced.{Traced}
use Rattle.coll_traced.proofs.Closings.{balanced_if, busy_if, idle_if}
use Rattle.coll_traced.proofs.traced_core.TracedCore.first_busy.Goals as goal

pub returns-clause-none : goal.returns-clause-none
returns-clause-none g c =
    subst (λ (h : Traced). IsNone c.first_unbalanced.result → IsIdle (seen h.core).state) c.self.view_is
    (idle_if c.first_unbalanced.result c.self.invariant.0 c.first_unbalanced.ensures.none)

pub returns-clause-some : goal.returns-clause-some
returns-clause-some g c =
    subst (λ (h : Traced). IfSome c.first_unbalanced.result (IsFirstBusy (seen h.core).state)) c.self.view_is
    (busy_if c.first_unbalanced.result c.self.invariant.0 c.first_unbalanced.ensures.some c.first_unbalanced.ensures.first)

pub returns-clause-balanced : goal.returns-clause-balanced
returns-clause-balanced g c =
    subst (λ (h : Traced). IsNone c.first_unbalanced.result → (r : ℕ) → r < g.L.Entries.setting.ranks → IsBalanced r h.entries)
    c.self.view_is (balanced_if c.first_unbalanced.result c.self.invariant.0 c.first_unbalanced.ensures.none)
