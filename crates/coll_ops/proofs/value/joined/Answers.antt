use Rattle.std.proofs.Common.{◌++◌, arith, ap, sym, ◌∙◌, take}
use Rattle.std.specs.List.{flat_map}
use Rattle.coll_ops.specs.Contributions.{rows_of}
use Rattle.coll_ops.specs.Values.{part}
use Rattle.coll_ops.proofs.RowLists.{part-fits, flat_map-rows_more}
use Rattle.coll_ops.proofs.value.joined.Goals as goal

pub part-requires : goal.part-requires
part-requires c = part-fits c.args.rows.now c.args.at c.args.len c.loop-row.row-index c.row-item.result c.requires (omega arith) c.row-item.is

pub loop-row-preserved : goal.loop-row-preserved
loop-row-preserved c =
    c.in_ok-extend_from_slice.ensures.items
    ∙ (ap (λ front. front ++ c.part.result.now) c.loop-row.invariant
    ∙ (ap (λ row. flat_map (part c.args.at c.args.len) (take c.loop-row.row-index (rows_of c.args.rows.now)) ++ row) c.part.ensures
    ∙ sym (flat_map-rows_more (part c.args.at c.args.len) c.args.rows.now c.loop-row.row-index c.row-item.result (omega arith) c.row-item.is)))
