use Rattle.std.proofs.Common.{◌≡◌, ℕ, length, slice_get, IfSome}
use Rattle.coll_diagnosis.specs.Hearings.{row_after}
use Rattle.coll_diagnosis.proofs.hearing.after_round.Given as goal

abbrev pub invariant-loop-member : goal.invariant-loop-member
invariant-loop-member l = record {
  size : length l.rows.items ≡ l.member;
  each : (r : ℕ) → IfSome (slice_get l.rows.items r) (λ row. row.items ≡ row_after l.round l.before (length l.plans) (slice_get l.plans r));
}
