use Rattle.std.proofs.Common.{take}
use Rattle.coll_report.specs.Views.{trace_seen}
use Rattle.coll_report.specs.Traces.{completes_by}
use Rattle.coll_traced.specs.Closings.{AreCounts}
use Rattle.coll_traced.proofs.balance.count_completed.Given as goal

abbrev pub invariant-loop-entry : goal.invariant-loop-entry
invariant-loop-entry l = AreCounts completes_by (trace_seen (take l.entry-index l.entries)) l.counts
