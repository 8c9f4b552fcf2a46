use Rattle.std.proofs.Common.{length, refl, arith}
use Rattle.coll_ops.proofs.Places.{place-within, put_mid-place_into}
use Rattle.coll_ops.proofs.rows.combine_places_into.Goals as goal

pub loop-place-preserved : goal.loop-place-preserved
loop-place-preserved c =
    put_mid-place_into c.args.op c.args.ty _ c.loop-place.place _ c.args.left.now c.args.right.now c.loop-place.left _ c.width-width.ensures
    (omega (arith, place-within c.loop-place.place c.width-width.result (length c.args.left.now) (omega arith))) refl
    c.combine_elements_into.ensures c.loop-place.invariant.0 c.loop-place.invariant.1
