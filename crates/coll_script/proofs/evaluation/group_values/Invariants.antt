use Rattle.std.proofs.Common.{◌≡◌, ◌++◌, drop}
use Rattle.coll_script.specs.Matching.{first_list}
use Rattle.coll_script.specs.Outcomes.{values_from, group_values, group_view}
use Rattle.coll_script.specs.PostingViews.{lists_view}
use Rattle.coll_script.proofs.evaluation.group_values.Given as goal

abbrev pub invariant-loop-place : goal.invariant-loop-place
invariant-loop-place l =
    group_view l.places.items ++ values_from (lists_view l.lists) l.place (drop l.place (first_list (lists_view l.lists))) ≡ group_values (lists_view l.lists)
