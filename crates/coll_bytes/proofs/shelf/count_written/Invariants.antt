use Rattle.std.proofs.Common.{◌≤◌}
use Rattle.coll_bytes.proofs.shelf.count_written.Given as goal

abbrev pub invariant-loop-row : goal.invariant-loop-row
invariant-loop-row l = l.count ≤ l.row-index
