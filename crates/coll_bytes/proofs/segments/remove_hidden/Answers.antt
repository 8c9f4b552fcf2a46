use Rattle.std.proofs.Common.{◌≡◌, ◌<◌, ◌+◌, ◌-◌, ◌∙◌, ap, arith, get_or, length, refl}
use Rattle.coll_bytes.proofs.Laying.{hidden_more, remove_inside}
use Rattle.coll_bytes.proofs.segments.remove_hidden.Goals as goal

pub loop-i-preserved-then-is_within : goal.loop-i-preserved-then-is_within
loop-i-preserved-then-is_within c =
    let there : c.loop-i.i - 1 < length c.loop-i.segments.items = omega (arith, c.loop-i-test.true, c.loop-i.invariant.below) in
    let is : c.index-as_slice-i.result ≡ get_or c.loop-i.segments.items (c.loop-i.i - 1) c.index-as_slice-i.result =
    c.index-as_slice-i.is ∙ ap (λ xs. get_or xs (c.loop-i.i - 1) c.index-as_slice-i.result) c.as_slice.ensures in
    let one_less : length c.discard.new.segments.items + 1 ≡ length c.loop-i.segments.items = c.discard.ensures.len in
    record {
      below = omega (arith, one_less, c.loop-i.invariant.below);
      all = rw c.discard.ensures.items (remove_inside c.args.size c.loop-i.segments.items (c.loop-i.i - 1) c.loop-i.invariant.all);
      hidden = hidden_more c.args.size c.args.segments.now.items c.loop-i.segments.items c.discard.new.segments.items
          (c.loop-i.i - 1) c.index-as_slice-i.result c.place-place.result c.args.region c.discard.ensures.items
          c.loop-i.invariant.all c.requires.inside there is c.place-place.ensures (c.if-is_within.ensures.0 refl) c.loop-i.invariant.hidden;
      fewer = omega (arith, one_less, c.loop-i.invariant.fewer);
      capacity = c.discard.ensures.capacity ∙ c.loop-i.invariant.capacity;
    }
