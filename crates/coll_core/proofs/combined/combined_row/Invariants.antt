use Rattle.std.proofs.Common.{◌≡◌, ◌≤◌, ◌%◌, ◌-◌, length, take}
use Rattle.coll_kinds.specs.Elements.{width}
use Rattle.coll_ops.specs.Combinations.{combined}
use Rattle.coll_core.proofs.combined.combined_row.Given as goal

-- the front of the combination, of whole elements
abbrev pub invariant-loop-done : goal.invariant-loop-done
invariant-loop-done l = record {
  within : l.done ≤ length l.left;
  whole : l.done % width l.ty ≡ 0;
  front : l.row.items
      ≡ take l.done (combined l.op l.ty l.left l.right);
}

abbrev pub decreases-loop-done : goal.decreases-loop-done
decreases-loop-done l = length l.left - l.done
