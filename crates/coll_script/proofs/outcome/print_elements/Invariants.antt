use Rattle.std.proofs.Common.{◌≡◌, ◌+◌, ◌-◌, ◌*◌, ◌/◌, ◌++◌, length}
use Rattle.std.specs.Prelude.{flat_map}
use Rattle.coll_kinds.specs.Elements.{width}
use Rattle.coll_ops.specs.Combinations.{elements}
use Rattle.coll_script.specs.Meaning.{element_text}
use Rattle.coll_script.specs.Growing.{Extends}
use Rattle.coll_script.proofs.outcome.print_elements.Given as goal

abbrev pub invariant-loop : goal.invariant-loop
invariant-loop l = record {
  rest : length l.rest + l.counter * width l.ty ≡ length l.row;
  so_far : l.out.items ++ flat_map element_text (elements l.ty (length l.row / width l.ty - l.counter) l.rest)
      ≡ l.initial.out.items ++ flat_map element_text (elements l.ty (length l.row / width l.ty) l.row);
  front : Extends l.initial.out.items l.out.items;
}
