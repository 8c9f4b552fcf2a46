use Rattle.std.proofs.Common.{◌≡◌, ◌/◌, ◌++◌, length, ap, subst, sym, arith}
use Rattle.std.specs.Prelude.{flat_map}
use Rattle.coll_kinds.specs.Elements.{width}
use Rattle.coll_ops.specs.Combinations.{elements}
use Rattle.coll_script.specs.Meaning.{element_text}
use Rattle.coll_script.specs.Growing.{Extends}
use Rattle.coll_script.proofs.Printing.{Extends-self, Extends-more, width-le, rest-more, spaced-more, OnErr-always, minus-zero}
use Rattle.coll_script.proofs.outcome.print_elements.Goals as goal

pub loop-init : goal.loop-init
loop-init c = record {
  rest = omega arith;
  so_far = ap (λ n. c.args.out.now.items ++ flat_map element_text (elements c.args.ty n c.args.row.now)) (minus-zero _);
  front = Extends-self _;
}

pub returns-in_err-push-clause-err : goal.returns-in_err-push-clause-err
returns-in_err-push-clause-err c = OnErr-always _ (subst (Extends c.args.out.now.items) (sym c.in_err-push.ensures.items) c.loop.invariant.front)

pub returns-in_err-print_element-clause-err : goal.returns-in_err-print_element-clause-err
returns-in_err-print_element-clause-err c =
    OnErr-always _ (subst (Extends c.args.out.now.items) (sym c.in_err-print_element.ensures.err)
    (Extends-more _ _ _ _ c.loop.invariant.front c.in_ok-push.ensures.items))

pub loop-preserved : goal.loop-preserved
loop-preserved c =
    let width-is : c.width-width.result ≡ width c.args.ty = c.width-width.ensures in
    let before_end = rw width-is at c.loop-test.true in
    let le = width-le c.args.ty (length c.args.row.now) c.loop.counter (length c.loop.rest.now) before_end c.loop.invariant.rest in
    record {
      rest = rw (c.split_at.ensures.back, width-is) (rest-more c.args.ty (length c.args.row.now) c.loop.counter c.loop.rest.now le c.loop.invariant.rest);
      so_far = rw (c.in_ok-print_element.ensures.ok, c.in_ok-push.ensures.items, c.split_at.ensures.back, width-is)
          (spaced-more c.args.ty (length c.args.row.now / width c.args.ty) c.loop.counter c.loop.rest.now c.loop.out.items _
          before_end c.loop.invariant.so_far);
      front = Extends-more _ _ _ _ (Extends-more _ _ _ _ c.loop.invariant.front c.in_ok-push.ensures.items) c.in_ok-print_element.ensures.ok;
    }
