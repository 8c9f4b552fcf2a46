use Rattle.std.proofs.Common.{◌≡◌, ℕ, ◌<◌, length, slice_get, Some}
use Rattle.coll_draw.proofs.plans.plans_of.Given as goal

abbrev pub invariant-loop-member : goal.invariant-loop-member
invariant-loop-member l =
    (length l.plans.items ≡ l.member)
    × ((r : ℕ) → r < l.member → slice_get l.plans.items r ≡ Some (record { sig = l.sig; n = l.n; member = r }))
