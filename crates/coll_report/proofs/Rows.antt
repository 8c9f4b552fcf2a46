-- The traces of the worked rows are those of closed engines.
use Rattle.std.proofs.Common.{◌≡◌, ◌≤◌, ◌<◌, ℕ, zero, suc, false, List, [], ◌⊎◌, inl, inr, None, refl, sym, ◌∙◌, arith}
use Rattle.std.proofs.lemmas.Bool.{cases_eq}
use Rattle.std.proofs.lemmas.Option.{none-some}
use Rattle.coll_machine.specs.Common.{State, two_ranks, left_late, late_bcast, freed, two_starts}
use Rattle.coll_machine.proofs.Rows.{rows_are_legal}
use Rattle.coll_machine.proofs.Slots.{AreLow, live_low}
use Rattle.coll_report.specs.Scripts.{Command}
use Rattle.coll_report.specs.Told.{IsIdle}
use Rattle.coll_report.specs.ScriptRows.{bcasts, gathers}
use Rattle.coll_report.proofs.ScriptRows.{rows_are_told}
use Rattle.coll_report.specs.Rows.{RowsAreClosed}

none_live : (s : State) → AreLow two_ranks s → s.request 0 ≡ None → s.request 1 ≡ None → IsIdle s
none_live s low first second slot q is = go (cases_eq slot 0) (cases_eq slot 1)
  where
    go : (slot ≡ 0) ⊎ (slot ≡ 0 → ⊥) → (slot ≡ 1) ⊎ (slot ≡ 1 → ⊥) → q.active ≡ false
    go (inl e) _ = absurd (none-some q (sym first ∙ (λ i. s.request (sym e i)) ∙ is))
    go (inr d) (inl e) = absurd (none-some q (sym second ∙ (λ i. s.request (sym e i)) ∙ is))
    go (inr d) (inr c) = let few : slot < 2 = low slot q is in absurd (omega (arith, few, d, c))

no_others : (script : ℕ → List Command) → ((n : ℕ) → script (suc (suc n)) ≡ [])
    → (rank : ℕ) → 2 ≤ rank → script rank ≡ []
no_others script none zero high = absurd (omega (arith, high))
no_others script none (suc zero) high = absurd (omega (arith, high))
no_others script none (suc (suc n)) high = none n

pub rows_are_closed : RowsAreClosed
rows_are_closed = (
  (
    record {
      groups = rows_are_told.0.groups;
      last = left_late;
      legal = rows_are_legal.0;
      idle = none_live left_late (live_low two_ranks left_late late_bcast rows_are_legal.0.leads) refl refl;
    },
    record { says = λ rank low. rows_are_told.0.says rank; others = no_others bcasts (λ n. refl) },
  ),
  (
    record {
      groups = rows_are_told.1.groups;
      last = freed;
      legal = rows_are_legal.1;
      idle = none_live freed (live_low two_ranks freed two_starts rows_are_legal.1.leads) refl refl;
    },
    record { says = λ rank low. rows_are_told.1.says rank; others = no_others gathers (λ n. refl) },
  ),
)
