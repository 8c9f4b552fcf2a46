use Rattle.std.proofs.Common.{◌≡◌, ◌≤◌, ◌*◌, ◌^◌}
use Rattle.coll_kinds.specs.Lengths.{row_len, total}
use Rattle.coll_kinds.proofs.signature.Signature.rows_len.Given as goal

abbrev pub invariant-loop-i : goal.invariant-loop-i
invariant-loop-i l = (l.len ≡ total (row_len l.self) l.i) × (l.len ≤ l.i * 2 ^ 35)
