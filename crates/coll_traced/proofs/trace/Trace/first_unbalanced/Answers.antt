use Rattle.std.proofs.Common.{ℕ, ◌<◌, List, ap, subst, ◌∙◌}
use Rattle.std.specs.Prelude.{IfSome, IsNone}
use Rattle.coll_machine.specs.Entries.{Entry}
use Rattle.coll_report.specs.Views.{trace_seen}
use Rattle.coll_traced.specs.Closings.{IsBalanced}
use Rattle.coll_traced.specs.Recorded.{Recorded}
use Rattle.coll_traced.proofs.trace.Trace.first_unbalanced.Goals as goal

pub returns-clause-none : goal.returns-clause-none
returns-clause-none g c =
    subst (λ (es : List Entry). IsNone c.first_unbalanced.result → (r : ℕ) → r < c.args.ranks → IsBalanced r es)
    (ap trace_seen c.deref.ensures.value ∙ ap (λ (t : Recorded). t.entries) c.self.view_is) c.first_unbalanced.ensures.none

pub returns-clause-some : goal.returns-clause-some
returns-clause-some g c =
    subst (λ (es : List Entry). IfSome c.first_unbalanced.result (λ rank. IsBalanced rank es → ⊥))
    (ap trace_seen c.deref.ensures.value ∙ ap (λ (t : Recorded). t.entries) c.self.view_is) c.first_unbalanced.ensures.some

pub returns-clause-first : goal.returns-clause-first
returns-clause-first g c =
    subst (λ (es : List Entry). IfSome c.first_unbalanced.result (λ rank. (r : ℕ) → r < rank → IsBalanced r es))
    (ap trace_seen c.deref.ensures.value ∙ ap (λ (t : Recorded). t.entries) c.self.view_is) c.first_unbalanced.ensures.first
