use Rattle.std.proofs.Common.{◌≡◌, ◌<◌, ℕ, Some}
use Rattle.std.specs.Prelude.{slice_get}
use Rattle.coll_complete.proofs.distinct.stands_in.Given as goal

abbrev pub invariant-loop-request : goal.invariant-loop-request
invariant-loop-request l = (k : ℕ) → k < l.request-index → slice_get l.requests k ≡ Some (Some l.ticket) → ⊥
