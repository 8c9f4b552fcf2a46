use Rattle.std.proofs.Common.{◌≤◌, ◌<◌, length, IfSome}
use Rattle.coll_bytes.proofs.shelf.place_of.Given as goal

abbrev pub invariant-loop-at : goal.invariant-loop-at
invariant-loop-at l = (l.at ≤ length l.rows) × IfSome l.place (λ found. found < length l.rows)

abbrev pub decreases-loop-at : goal.decreases-loop-at
decreases-loop-at l = l.at
