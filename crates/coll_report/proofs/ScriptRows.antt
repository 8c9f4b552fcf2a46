-- The traces of the worked rows are those of their scripts.
use Rattle.std.proofs.Common.{ℕ, zero, suc, ◌≤◌, List, [], refl, sym, subst, arith}
use Rattle.coll_kinds.proofs.Members.{IsGroup-none, IsGroup-range}
use Rattle.coll_machine.specs.Common.{AreGroups, State, nothing, Entry, posts_of, Leads, two_ranks, late_bcast, left_late, two_starts, freed}
use Rattle.coll_machine.proofs.Rows.{rows_are_legal}
use Rattle.coll_report.specs.Scripts.{Says}
use Rattle.coll_report.specs.ScriptRows.{bcasts, gathers, RowsAreTold}
use Rattle.coll_report.proofs.Strangers.{strangers_are_silent}

groups : AreGroups two_ranks
groups zero = IsGroup-range 2 (omega arith)
groups (suc comm) = IsGroup-none 2

-- no other rank has an entry
no_other : (es : List Entry) (u : State) → Leads two_ranks nothing es u → (rank : ℕ) → 2 ≤ rank → Says [] [] (posts_of rank es)
no_other es u l rank high = subst (λ (es : List Entry). Says [] [] es) (sym (strangers_are_silent two_ranks es u groups l rank high)) tt

pub rows_are_told : RowsAreTold
rows_are_told = (
  record { groups = groups; leads = rows_are_legal.0.leads; says = bcasts_say },
  record { groups = groups; leads = rows_are_legal.1.leads; says = gathers_say },
)
  where
    bcasts_say : (rank : ℕ) → Says [] (bcasts rank) (posts_of rank late_bcast)
    bcasts_say zero = (refl, refl, refl, tt)
    bcasts_say (suc zero) = (refl, refl, refl, tt)
    bcasts_say (suc (suc rank)) = no_other late_bcast left_late rows_are_legal.0.leads (suc (suc rank)) (omega arith)

    gathers_say : (rank : ℕ) → Says [] (gathers rank) (posts_of rank two_starts)
    gathers_say zero = (refl, refl, (refl, refl, (refl, refl, tt)))
    gathers_say (suc zero) = (refl, refl, (refl, refl, (refl, refl, tt)))
    gathers_say (suc (suc rank)) = no_other two_starts freed rows_are_legal.1.leads (suc (suc rank)) (omega arith)
