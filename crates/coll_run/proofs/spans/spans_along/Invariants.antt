use Rattle.std.proofs.Common.{◌≡◌, vec_len}
use Rattle.coll_run.proofs.spans.spans_along.Given as goal

abbrev pub invariant-loop-entry : goal.invariant-loop-entry
invariant-loop-entry l = vec_len l.along ≡ l.entry-index
