use Rattle.std.proofs.Common.{◌≡◌, take}
use Rattle.coll_ops.specs.Contributions.{rows_of}
use Rattle.coll_ops.specs.Values.{all_rows}
use Rattle.coll_ops.proofs.value.whole.Given as goal

abbrev pub invariant-loop-row : goal.invariant-loop-row
invariant-loop-row l = l.bytes.items ≡ all_rows (take l.row-index (rows_of l.rows))
