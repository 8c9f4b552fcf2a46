use Rattle.std.proofs.Common.{◌≡◌, ◌+◌, ◌-◌, ◌*◌, ◌/◌, ◌++◌, length}
use Rattle.std.specs.Prelude.{flat_map}
use Rattle.coll_kinds.specs.Elements.{width}
use Rattle.coll_ops.specs.Combinations.{elements}
use Rattle.coll_views.specs.Texts.{element_text}
use Rattle.coll_views.proofs.elements.print_elements.Given as goal

abbrev pub invariant-loop : goal.invariant-loop
invariant-loop l = record {
  rest : length l.rest + l.counter * width l.ty ≡ length l.row;
  so_far : l.out.items ++ flat_map (element_text l.style l.ty) (elements l.ty (length l.row / width l.ty - l.counter) l.rest)
      ≡ l.initial.out.items ++ flat_map (element_text l.style l.ty) (elements l.ty (length l.row / width l.ty) l.row);
}
