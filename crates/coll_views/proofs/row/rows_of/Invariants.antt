use Rattle.std.proofs.Common.{◌≡◌, ◌++◌, drop, map}
use Rattle.coll_machine.specs.Entries.{Entry}
use Rattle.coll_report.specs.Views.{trace_seen}
use Rattle.coll_views.specs.Requests.{named}
use Rattle.coll_views.specs.Rows.{row_of, rows_of}
use Rattle.coll_views.proofs.row.rows_of.Given as goal

abbrev pub invariant-loop-entry : goal.invariant-loop-entry
invariant-loop-entry l =
    l.rows.items ++ map (λ (e : Entry). row_of (named l.requests e) e) (drop l.entry-index (trace_seen l.trace))
    ≡ rows_of l.requests (trace_seen l.trace)
