use Rattle.std.proofs.Common.{◌≡◌, drop}
use Rattle.std.specs.List.{list_all}
use Rattle.coll_script.specs.Matching.{first_list, started_alike, have_starts}
use Rattle.coll_script.specs.PostingViews.{lists_view}
use Rattle.coll_script.proofs.matching.have_starts.Given as goal

abbrev pub invariant-loop-list : goal.invariant-loop-list
invariant-loop-list l = list_all (started_alike (first_list (lists_view l.lists))) (drop l.list-index (lists_view l.lists)) ≡ have_starts (lists_view l.lists)
