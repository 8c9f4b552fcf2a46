use Rattle.std.proofs.Common.{◌≡◌, ◌/◌, ◌++◌, length, ap, arith}
use Rattle.std.specs.Prelude.{flat_map}
use Rattle.coll_kinds.specs.Elements.{width}
use Rattle.coll_ops.specs.Combinations.{elements}
use Rattle.coll_views.specs.Texts.{element_text}
use Rattle.coll_script.proofs.Printing.{elements-more, minus-zero, rest-more, width-le}
use Rattle.coll_views.proofs.elements.print_elements.Goals as goal

pub loop-init : goal.loop-init
loop-init c = record {
  rest = omega arith;
  so_far = ap (λ n. c.args.out.now.items ++ flat_map (element_text c.args.style c.args.ty) (elements c.args.ty n c.args.row.now)) (minus-zero _);
}

pub loop-preserved : goal.loop-preserved
loop-preserved c =
    let width-is : c.width-width.result ≡ width c.args.ty = c.width-width.ensures in
    let before_end = rw width-is at c.loop-test.true in
    let le = width-le c.args.ty (length c.args.row.now) c.loop.counter (length c.loop.rest.now) before_end c.loop.invariant.rest in
    record {
      rest = rw (c.split_at.ensures.back, width-is) (rest-more c.args.ty (length c.args.row.now) c.loop.counter c.loop.rest.now le c.loop.invariant.rest);
      so_far = rw (c.in_ok-print_one.ensures, c.split_at.ensures.back, width-is)
          (elements-more (element_text c.args.style c.args.ty) c.args.ty (length c.args.row.now / width c.args.ty) c.loop.counter
          c.loop.rest.now c.loop.out.items _ before_end c.loop.invariant.so_far);
    }
