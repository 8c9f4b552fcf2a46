use Rattle.std.proofs.Common.{◌≡◌, drop, length, eqb}
use Rattle.std.specs.List.{list_all}
use Rattle.coll_script.specs.Matching.{first_list, have_places}
use Rattle.coll_script.specs.PostingViews.{lists_view}
use Rattle.coll_script.proofs.matching.have_places.Given as goal

abbrev pub invariant-loop-list : goal.invariant-loop-list
invariant-loop-list l =
    list_all (λ list. eqb (length list) (length (first_list (lists_view l.lists)))) (drop l.list-index (lists_view l.lists)) ≡ have_places (lists_view l.lists)
