use Rattle.std.proofs.Common.{◌<◌, ℕ}
use Rattle.coll_report.specs.Views.{trace_seen}
use Rattle.coll_traced.specs.Closings.{IsBalanced}
use Rattle.coll_traced.proofs.balance.first_unbalanced.Given as goal

abbrev pub invariant-loop-rank : goal.invariant-loop-rank
invariant-loop-rank l = (r : ℕ) → r < l.rank → IsBalanced r (trace_seen l.entries)
