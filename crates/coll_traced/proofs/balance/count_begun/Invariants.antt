use Rattle.std.proofs.Common.{take}
use Rattle.coll_report.specs.Views.{trace_seen}
use Rattle.coll_traced.specs.Closings.{AreCounts, begins_by}
use Rattle.coll_traced.proofs.balance.count_begun.Given as goal

abbrev pub invariant-loop-entry : goal.invariant-loop-entry
invariant-loop-entry l = AreCounts begins_by (trace_seen (take l.entry-index l.entries)) l.counts
