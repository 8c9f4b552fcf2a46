use Rattle.std.proofs.Common.{◌≡◌, ℕ, eqb, length, map, slice_get, IfSome}
use Rattle.std.specs.List.{range_with_len}
use Rattle.coll_diagnosis.proofs.hearing.alone.Given as goal

abbrev pub invariant-loop-member : goal.invariant-loop-member
invariant-loop-member l = record {
  size : length l.rows.items ≡ l.member;
  each : (r : ℕ) → IfSome (slice_get l.rows.items r) (λ row. row.items ≡ map (λ p. eqb p r) (range_with_len 0 l.n));
}
