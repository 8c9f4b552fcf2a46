use Rattle.std.proofs.Common.{ℕ, ◌<◌, Contains}
use Rattle.coll_report.specs.Traces.{entries_of}
use Rattle.coll_report.specs.Views.{trace_seen}
use Rattle.coll_traced.proofs.balance.are_ends.Given as goal

abbrev pub invariant-loop-rank : goal.invariant-loop-rank
invariant-loop-rank g l = (rank : ℕ) → rank < l.rank → Contains l.spents (rank, entries_of rank (trace_seen l.entries))
