use Rattle.std.proofs.Common.{◌≡◌, ◌<◌, ℕ, length, slice_get, IfSome}
use Rattle.coll_plans.specs.Plans.{family, IsPlanned}
use Rattle.coll_diagnosis.proofs.hearing.plans.Given as goal

abbrev pub invariant-loop-member : goal.invariant-loop-member
invariant-loop-member l = record {
  size : length l.plans.items ≡ l.member;
  each : (r : ℕ) → IfSome (slice_get l.plans.items r) (λ p. p ≡ record { sig = l.sig; n = l.n; member = r });
  planned : 0 < l.member → IsPlanned l.sig l.n (family l.sig l.n);
}
