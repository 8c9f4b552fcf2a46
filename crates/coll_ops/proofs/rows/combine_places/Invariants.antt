use Rattle.std.proofs.Common.{◌≡◌, ◌*◌, take}
use Rattle.coll_ops.proofs.Places.{places}
use Rattle.coll_ops.proofs.rows.combine_places.Given as goal

abbrev pub invariant-loop-place : goal.invariant-loop-place
invariant-loop-place l = take (l.place * l.width) l.out ≡ places l.op l.ty l.place l.left l.right
