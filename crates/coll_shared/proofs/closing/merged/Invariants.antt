use Rattle.std.proofs.Common.{◌≡◌, ◌+◌, vec_len, sum_by}
use Rattle.coll_shared.proofs.closing.merged.Given as goal

abbrev pub invariant-loop-spent : goal.invariant-loop-spent
invariant-loop-spent g l =
    (l.all.parts + vec_len l.spents ≡ vec_len l.fn.spents)
    × (l.all.amount + sum_by (λ spent. spent.1) l.spents.items ≡ sum_by (λ spent. spent.1) l.fn.spents.items)

abbrev pub decreases-loop-spent : goal.decreases-loop-spent
decreases-loop-spent g l = vec_len l.spents
