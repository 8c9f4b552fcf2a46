use Rattle.std.proofs.Common.{◌≡◌, ℕ, map}
use Rattle.std.specs.List.{range_with_len}
use Rattle.coll_ops.specs.Contributions.{rows_of}
use Rattle.coll_ops.proofs.values.copies.Given as goal

abbrev pub invariant-loop-member : goal.invariant-loop-member
invariant-loop-member l = rows_of l.rows.items ≡ map (λ (r : ℕ). l.row.items) (range_with_len 0 l._member)
