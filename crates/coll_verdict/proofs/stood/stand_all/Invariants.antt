use Rattle.std.proofs.Common.{◌≡◌, ℕ, length, slice_get, IfSome}
use Rattle.coll_verdict.specs.Code.{IsStood}
use Rattle.coll_verdict.proofs.stood.stand_all.Given as goal

abbrev pub invariant-loop-rank : goal.invariant-loop-rank
invariant-loop-rank l = record {
  count : length l.ranks.items ≡ l.rank;
  each : (r : ℕ) → IfSome (slice_get l.ranks.items r) (IsStood l.history r);
}
