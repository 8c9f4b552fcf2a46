use Rattle.std.proofs.Common.{length, arith}
use Rattle.coll_ops.proofs.Places.{place-within, take-put_mid-place}
use Rattle.coll_ops.proofs.rows.combine_places.Goals as goal

pub loop-place-preserved : goal.loop-place-preserved
loop-place-preserved c =
    take-put_mid-place c.args.op c.args.ty _ c.loop-place.place _ c.args.left.now c.args.right.now c.loop-place.out _ _
    c.width-width.ensures (omega (
      arith,
      place-within c.loop-place.place c.width-width.result (length c.args.left.now)
          (omega arith),
      c.requires.room,
    )) c.combine_elements.ensures c.loop-place.invariant
