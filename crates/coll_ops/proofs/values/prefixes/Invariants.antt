use Rattle.std.proofs.Common.{◌≡◌, ℕ, ◌<◌, map}
use Rattle.std.specs.Prelude.{slice_index}
use Rattle.std.specs.List.{range_with_len}
use Rattle.coll_ops.specs.Contributions.{rows_of}
use Rattle.coll_ops.specs.Values.{row_of}
use Rattle.coll_ops.proofs.Prefixes.{prefix}
use Rattle.coll_ops.proofs.values.prefixes.Given as goal

abbrev pub invariant-loop-row : goal.invariant-loop-row
invariant-loop-row l = record {
  sums_are : rows_of l.sums.items ≡ map (prefix l.op l.sig.ty (rows_of l.rows)) (range_with_len 0 l.row-index);
  bytes : (k : ℕ) → k < l.row-index → (j : ℕ) → slice_index (row_of (rows_of l.rows) k) j < 256;
}
