use Rattle.std.proofs.Common.{◌≡◌, ◌++◌, ℕ, drop}
use Rattle.std.specs.Prelude.{flat_map, slice_index}
use Rattle.std.specs.List.{enumerate_from}
use Rattle.coll_machine.specs.Entries.{Entry}
use Rattle.coll_report.specs.Views.{trace_seen}
use Rattle.coll_views.specs.Lines.{entry_line, trace_text}
use Rattle.coll_views.proofs.trace.trace_text.Given as goal

abbrev pub invariant-loop-index : goal.invariant-loop-index
invariant-loop-index l =
    l.out.items
    ++ flat_map (λ (at : ℕ × Entry). entry_line l.requests (slice_index l.lines at.0) at.1) (enumerate_from l.index (drop l.index (trace_seen l.trace)))
    ≡ trace_text l.requests l.lines (trace_seen l.trace)
