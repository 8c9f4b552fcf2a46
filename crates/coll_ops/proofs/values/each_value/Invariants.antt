use Rattle.std.proofs.Common.{◌≡◌, map}
use Rattle.std.specs.List.{range_with_len}
use Rattle.coll_ops.specs.Contributions.{rows_of}
use Rattle.coll_ops.specs.Values.{value}
use Rattle.coll_ops.proofs.values.each_value.Given as goal

abbrev pub invariant-loop-r : goal.invariant-loop-r
invariant-loop-r l = rows_of l.values.items ≡ map (value l.sig (rows_of l.given)) (range_with_len 0 l.r)
