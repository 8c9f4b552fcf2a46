use Rattle.std.proofs.Common.{◌≡◌, ◌++◌, map, drop}
use Rattle.coll_script.specs.Outcomes.{group_values, values_view}
use Rattle.coll_script.specs.PostingViews.{all_lists_view}
use Rattle.coll_script.proofs.evaluation.all_values.Given as goal

abbrev pub invariant-loop-lists : goal.invariant-loop-lists
invariant-loop-lists l = values_view l.groups.items ++ map group_values (drop l.lists-index (all_lists_view l.all)) ≡ map group_values (all_lists_view l.all)
