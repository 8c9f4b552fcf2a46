use Rattle.std.proofs.Common.{◌≡◌, ◌++◌, take, arith, ap, sym, ◌∙◌, rules}
use Rattle.coll_ops.specs.Contributions.{rows_of}
use Rattle.coll_ops.specs.Values.{all_rows}
use Rattle.coll_ops.proofs.RowLists.{flat_map-rows_more}
use Rattle.coll_ops.proofs.value.whole.Goals as goal

pub loop-row-preserved : goal.loop-row-preserved
loop-row-preserved c =
    let is : c.deref.result.now ≡ c.row-item.result.items = search rules in
    c.in_ok-extend_from_slice.ensures.items
    ∙ (ap (λ front. front ++ c.deref.result.now) c.loop-row.invariant
    ∙ (ap (λ row. all_rows (take c.loop-row.row-index (rows_of c.args.rows.now)) ++ row) is
    ∙ sym (flat_map-rows_more (λ row. row) c.args.rows.now c.loop-row.row-index c.row-item.result (omega arith) c.row-item.is)))
