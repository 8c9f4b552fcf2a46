use Rattle.std.proofs.Common.{◌≡◌, ◌*◌, take, drop}
use Rattle.coll_ops.proofs.Places.{places}
use Rattle.coll_ops.proofs.rows.combine_places_into.Given as goal

abbrev pub invariant-loop-place : goal.invariant-loop-place
invariant-loop-place l =
    (take (l.place * l.width) l.left ≡ places l.op l.ty l.place l.initial.left l.right)
    × (drop (l.place * l.width) l.left ≡ drop (l.place * l.width) l.initial.left)
