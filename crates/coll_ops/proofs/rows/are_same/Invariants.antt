use Rattle.std.proofs.Common.{◌≡◌, ◌↔◌, IsTrue, length}
use Rattle.coll_ops.proofs.rows.are_same.Given as goal

-- the rows are the same where they were so far, and what is left of them is the same
abbrev pub invariant-loop-a : goal.invariant-loop-a
invariant-loop-a l =
    (length l.a-iterator.a.rest.now ≡ length l.a-iterator.b.rest.now)
    × ((l.left ≡ l.right) ↔ (IsTrue l.same × (l.a-iterator.a.rest.now ≡ l.a-iterator.b.rest.now)))
