use Rattle.std.proofs.Common.{◌≡◌, ◌++◌, drop}
use Rattle.std.specs.Prelude.{flat_map}
use Rattle.coll_views.specs.Tables.{cell_text}
use Rattle.coll_views.proofs.cell.print_cells.Given as goal

abbrev pub invariant-loop-cell : goal.invariant-loop-cell
invariant-loop-cell l =
    l.out.items ++ flat_map cell_text (drop l.cell-index l.cells) ≡ l.initial.out.items ++ flat_map cell_text l.cells
