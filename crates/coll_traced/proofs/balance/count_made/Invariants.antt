use Rattle.std.proofs.Common.{take}
use Rattle.std.specs.Prelude.{◌==◌}
use Rattle.coll_report.specs.Traces.{caller}
use Rattle.coll_report.specs.Views.{trace_seen}
use Rattle.coll_traced.specs.Closings.{AreCounts}
use Rattle.coll_traced.proofs.balance.count_made.Given as goal

abbrev pub invariant-loop-entry : goal.invariant-loop-entry
invariant-loop-entry l = AreCounts (λ rank e. caller e == rank) (trace_seen (take l.entry-index l.entries)) l.counts
