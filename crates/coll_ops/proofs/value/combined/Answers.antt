use Rattle.std.proofs.Common.{◌≡◌, ◌-◌, ◌%◌, length, drop, map, arith, ap, sym, ◌∙◌}
use Rattle.std.proofs.Math.Nat.{mul-mod_left}
use Rattle.std.proofs.lemmas.List.{with_items_is}
use Rattle.coll_kinds.specs.Elements.{width}
use Rattle.coll_ops.specs.Combinations.{combined, combination}
use Rattle.coll_ops.specs.Contributions.{rows_of}
use Rattle.coll_ops.specs.Values.{part, row_of}
use Rattle.coll_ops.proofs.RowLists.{row_of-parts, length-parts, part-fits, length-part, combination-drop, combination-last, length-combined}
use Rattle.coll_ops.proofs.value.combined.Goals as goal

pub loop-i-init : goal.loop-i-init
loop-i-init c =
    let last = length c.args.rows.now - 1 in
    let block = c.block_len-block.result in
    let row = row_of-parts c.args.rows.now c.args.at block last c.index-rows-last.result (omega arith) c.index-rows-last.is in
    let parts = map (part c.args.at block) (rows_of c.args.rows.now) in
    let sum : c.in_ok-sum.sum.items ≡ part c.args.at block c.index-rows-last.result.items = c.in_ok-sum.ensures.items ∙ c.part.ensures in
    let fits = part-fits c.args.rows.now c.args.at block last c.index-rows-last.result
    (rw c.block_len-block.ensures c.requires.parts) (omega arith) c.index-rows-last.is in
    let long : length c.in_ok-sum.sum.items ≡ block = ap length sum ∙ length-part c.args.at block c.index-rows-last.result.items fits in
    record {
      sum_is = sum ∙ (sym row ∙ sym (combination-last c.in-Some.op c.args.sig.ty parts last (omega (arith, length-parts c.args.rows.now c.args.at block))));
      sum_long = long;
      next_long = sym c.in_ok-next.next.ok.0 ∙ c.in_ok-next.ensures.len;
    }

pub part-requires-in-loop-i : goal.part-requires-in-loop-i
part-requires-in-loop-i c =
    part-fits c.args.rows.now c.args.at c.block_len-block.result (c.loop-i.i - 1) c.index-rows-i.result
    (rw c.block_len-block.ensures c.requires.parts) (omega arith) c.index-rows-i.is

pub combine-requires-clause-whole : goal.combine-requires-clause-whole
combine-requires-clause-whole c =
    let block = c.block_len-block.result in
    let fits = part-fits c.args.rows.now c.args.at block (c.loop-i.i - 1) c.index-rows-i.result
    (rw c.block_len-block.ensures c.requires.parts) (omega arith) c.index-rows-i.is in
    ap (λ n. n % width c.args.sig.ty)
    (ap length c.part-in-loop-i.ensures ∙ length-part c.args.at block c.index-rows-i.result.items fits ∙ c.block_len-block.ensures)
    ∙ mul-mod_left c.args.sig.count (width c.args.sig.ty)

pub combine-requires-clause-same : goal.combine-requires-clause-same
combine-requires-clause-same c =
    let block = c.block_len-block.result in
    let fits = part-fits c.args.rows.now c.args.at block (c.loop-i.i - 1) c.index-rows-i.result
    (rw c.block_len-block.ensures c.requires.parts) (omega arith) c.index-rows-i.is in
    ap length c.as_slice.ensures.value ∙ c.loop-i.invariant.sum_long
    ∙ sym (ap length c.part-in-loop-i.ensures ∙ length-part c.args.at block c.index-rows-i.result.items fits)

pub combine-requires-clause-room : goal.combine-requires-clause-room
combine-requires-clause-room c =
    let block = c.block_len-block.result in
    let fits = part-fits c.args.rows.now c.args.at block (c.loop-i.i - 1) c.index-rows-i.result
    (rw c.block_len-block.ensures c.requires.parts) (omega arith) c.index-rows-i.is in
    ap length c.as_mut_slice.ensures.value ∙ c.loop-i.invariant.next_long
    ∙ sym (ap length c.part-in-loop-i.ensures ∙ length-part c.args.at block c.index-rows-i.result.items fits)

pub loop-i-preserved : goal.loop-i-preserved
loop-i-preserved c =
    let i = c.loop-i.i - 1 in
    let block = c.block_len-block.result in
    let parts = map (part c.args.at block) (rows_of c.args.rows.now) in
    let fits = part-fits c.args.rows.now c.args.at block i c.index-rows-i.result (rw c.block_len-block.ensures c.requires.parts)
    (omega arith) c.index-rows-i.is in
    let row : c.part-in-loop-i.result.now ≡ row_of parts i =
    c.part-in-loop-i.ensures ∙ sym (row_of-parts c.args.rows.now c.args.at block i c.index-rows-i.result (omega arith) c.index-rows-i.is) in
    let row_long : length c.part-in-loop-i.result.now ≡ block =
    ap length c.part-in-loop-i.ensures ∙ length-part c.args.at block c.index-rows-i.result.items fits in
    let sum : c.as_slice.result.now ≡ combination c.in-Some.op c.args.sig.ty (drop c.loop-i.i parts) = c.as_slice.ensures.value ∙ c.loop-i.invariant.sum_is in
    let whole : length c.part-in-loop-i.result.now % width c.args.sig.ty ≡ 0 =
    ap (λ n. n % width c.args.sig.ty) (row_long ∙ c.block_len-block.ensures) ∙ mul-mod_left c.args.sig.count (width c.args.sig.ty) in
    let long : length (combined c.in-Some.op c.args.sig.ty c.part-in-loop-i.result.now c.as_slice.result.now) ≡ block =
    length-combined c.in-Some.op c.args.sig.ty c.part-in-loop-i.result.now c.as_slice.result.now whole ∙ row_long in
    let kept : length c.combine.new.out ≡ c.loop-i.next.len =
    ap length c.combine.ensures ∙ (long ∙ (sym c.loop-i.invariant.next_long ∙ sym c.loop-i.next.ok.0)) in
    let out : c.swap.new.x.items ≡ combined c.in-Some.op c.args.sig.ty c.part-in-loop-i.result.now c.as_slice.result.now =
    ap (λ v. v.items) c.swap.ensures.x_after ∙ (with_items_is c.loop-i.next c.combine.new.out kept ∙ c.combine.ensures) in
    record {
      sum_is = out
          ∙ (ap (λ row. combined c.in-Some.op c.args.sig.ty row c.as_slice.result.now) row
          ∙ (ap (λ rest. combined c.in-Some.op c.args.sig.ty (row_of parts i) rest) sum
          ∙ sym (combination-drop c.in-Some.op c.args.sig.ty parts i c.loop-i.i (omega arith) (omega (arith, length-parts c.args.rows.now c.args.at block)))));
      sum_long = ap length out ∙ long;
      next_long = ap (λ v. length v.items) c.swap.ensures.y_after ∙ c.loop-i.invariant.sum_long;
    }
