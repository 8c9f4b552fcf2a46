use Rattle.std.proofs.Common.{◌≡◌, ℕ, ◌<◌, get_or}
use Rattle.coll_traced.proofs.balance.has_end.Given as goal

abbrev pub invariant-loop-spent : goal.invariant-loop-spent
invariant-loop-spent g l = (k : ℕ) → k < l.spent-index → get_or l.spents k (l.rank, l.made) ≡ (l.rank, l.made) → ⊥
