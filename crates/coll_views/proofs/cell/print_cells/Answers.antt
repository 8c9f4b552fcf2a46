use Rattle.coll_views.specs.Tables.{cell_text}
use Rattle.coll_views.proofs.Loops.{flat_map-at}
use Rattle.coll_views.proofs.cell.print_cells.Goals as goal

pub loop-cell-preserved : goal.loop-cell-preserved
loop-cell-preserved c =
    rw c.in_ok-print_cell.ensures
    (flat_map-at cell_text c.args.cells.now c.loop-cell.cell-index _ c.loop-cell.out.items _ c.loop-cell-test.true c.loop-cell.invariant)
