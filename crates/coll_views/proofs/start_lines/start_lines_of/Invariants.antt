use Rattle.std.proofs.Common.{◌≡◌, ◌++◌, ℕ, drop}
use Rattle.std.specs.Prelude.{flat_map, slice_index}
use Rattle.std.specs.List.{enumerate_from}
use Rattle.coll_machine.specs.Entries.{Entry}
use Rattle.coll_report.specs.Views.{trace_seen}
use Rattle.coll_views.specs.StartLines.{start_lines_at, start_lines_of}
use Rattle.coll_views.proofs.start_lines.start_lines_of.Given as goal

abbrev pub invariant-loop-index : goal.invariant-loop-index
invariant-loop-index l =
    l.start_lines.items
    ++ flat_map (λ (at : ℕ × Entry). start_lines_at l.rank (slice_index l.lines at.0) at.1) (enumerate_from l.index (drop l.index (trace_seen l.trace)))
    ≡ start_lines_of l.lines (trace_seen l.trace) l.rank
