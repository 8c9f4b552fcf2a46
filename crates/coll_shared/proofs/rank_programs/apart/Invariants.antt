use Rattle.std.proofs.Common.{◌≡◌, ◌++◌, Some, map}
use Rattle.std.specs.Vec.Iter.{into_iter_items}
use Rattle.coll_shared.proofs.rank_programs.apart.Given as goal

abbrev pub invariant-loop-spent : goal.invariant-loop-spent
invariant-loop-spent g l =
    (l.spents.items ++ map (λ end. end.spent) (into_iter_items l.spent-iterator) ≡ map (λ end. end.spent) l.fn.ends.items)
    × (map Some l.values.items ++ map (λ end. end.value) (into_iter_items l.spent-iterator) ≡ map (λ end. end.value) l.fn.ends.items)
