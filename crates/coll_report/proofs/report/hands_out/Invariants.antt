use Rattle.std.proofs.Common.{drop, ◌↔◌}
use Rattle.coll_report.specs.Attested.{HandedOut}
use Rattle.coll_report.specs.Views.{trace_seen}
use Rattle.coll_report.proofs.report.hands_out.Given as goal

-- all are all exactly where the rest are the rest
abbrev pub invariant-loop-entry : goal.invariant-loop-entry
invariant-loop-entry l =
    HandedOut (trace_seen (drop l.entry-index l.trace)) l.rank l.left
    ↔ HandedOut (trace_seen l.trace) l.rank l.outcomes
