use Rattle.std.proofs.Common.{◌-◌, arith, refl}
use Rattle.coll_bytes.proofs.Laying.{passed, shows}
use Rattle.coll_bytes.proofs.segments.holder.Goals as goal

pub returns-then-is_within : goal.returns-then-is_within
returns-then-is_within c =
    shows c.args.size c.args.segments.now (c.loop-i.i - 1) c.loop-i.i c.index-segments-i.result c.place-place.result c.args.from
    (omega arith) c.requires.all (omega (arith, c.loop-i.invariant.below)) c.index-segments-i.is c.place-place.ensures
    (c.if-is_within.ensures.0 refl) c.loop-i.invariant.same

pub loop-i-preserved : goal.loop-i-preserved
loop-i-preserved c = record {
  below = omega (arith, c.loop-i.invariant.below);
  same = passed c.args.size c.args.segments.now (c.loop-i.i - 1) c.loop-i.i c.index-segments-i.result c.place-place.result
      c.args.from (omega arith) c.requires.all c.requires.inside (omega (arith, c.loop-i.invariant.below)) c.index-segments-i.is
      c.place-place.ensures (c.if-not-is_apart.ensures.0 refl) c.loop-i.invariant.same;
}
