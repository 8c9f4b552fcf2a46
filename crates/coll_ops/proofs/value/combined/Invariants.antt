use Rattle.std.proofs.Common.{◌≡◌, length, drop, map}
use Rattle.coll_ops.specs.Combinations.{combination}
use Rattle.coll_ops.specs.Contributions.{rows_of}
use Rattle.coll_ops.specs.Values.{part}
use Rattle.coll_ops.proofs.value.combined.Given as goal

abbrev pub invariant-loop-i : goal.invariant-loop-i
invariant-loop-i l = record {
  sum_is : l.sum.items ≡ combination l.op l.sig.ty (drop l.i (map (part l.at l.block) (rows_of l.rows)));
  sum_long : length l.sum.items ≡ l.block;
  next_long : length l.next.items ≡ l.block;
}
