use Rattle.std.proofs.Common.{◌<◌, ℕ, slice_index_or}
use Rattle.coll_report.specs.Attested.{HandedOut}
use Rattle.coll_run.specs.declared.rank.Got.{Got}
use Rattle.coll_run.proofs.running.all_handed_out.Given as goal

abbrev pub invariant-loop-one : goal.invariant-loop-one
invariant-loop-one l =
    (k : ℕ) (d : Got) → k < l.one-index
    → HandedOut l.report.entries (slice_index_or l.got k d).rank (slice_index_or l.got k d).outcomes.items
