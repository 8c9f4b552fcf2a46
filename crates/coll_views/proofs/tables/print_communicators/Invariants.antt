use Rattle.std.proofs.Common.{◌≡◌, ◌++◌, ℕ, List, drop}
use Rattle.std.specs.Prelude.{flat_map}
use Rattle.std.specs.List.{enumerate_from}
use Rattle.coll_report.specs.Views.{groups_seen}
use Rattle.coll_views.specs.Tables.{all_comm_lines, comm_lines}
use Rattle.coll_views.proofs.tables.print_communicators.Given as goal

abbrev pub invariant-loop-comm : goal.invariant-loop-comm
invariant-loop-comm l =
    l.out.items ++ flat_map (λ (at : ℕ × List ℕ). comm_lines l.requests l.rows at.0 at.1) (enumerate_from l.comm (drop l.comm (groups_seen l.groups)))
    ≡ l.initial.out.items ++ all_comm_lines l.requests (groups_seen l.groups) l.rows
