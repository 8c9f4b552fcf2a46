use Rattle.std.proofs.Common.{◌≡◌, ◌++◌, drop}
use Rattle.std.specs.Prelude.{flat_map}
use Rattle.coll_report.specs.Views.{trace_seen}
use Rattle.coll_views.specs.Lines.{outcome_of}
use Rattle.coll_views.proofs.outcomes.print_entries.Given as goal

abbrev pub invariant-loop-entry : goal.invariant-loop-entry
invariant-loop-entry l =
    l.out.items ++ flat_map (outcome_of l.requests l.start_lines l.rank) (drop l.entry-index (trace_seen l.trace))
    ≡ l.initial.out.items ++ flat_map (outcome_of l.requests l.start_lines l.rank) (trace_seen l.trace)
