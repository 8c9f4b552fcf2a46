use Rattle.std.proofs.Common.{◌≡◌, drop}
use Rattle.std.specs.List.{list_all}
use Rattle.coll_script.specs.Matching.{have_places}
use Rattle.coll_script.specs.PostingViews.{all_lists_view}
use Rattle.coll_script.proofs.matching.all_have_places.Given as goal

abbrev pub invariant-loop-lists : goal.invariant-loop-lists
invariant-loop-lists l = list_all have_places (drop l.lists-index (all_lists_view l.all)) ≡ list_all have_places (all_lists_view l.all)
