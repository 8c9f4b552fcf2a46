use Rattle.std.proofs.Common.{◌≡◌, drop}
use Rattle.std.specs.Prelude.{slice_get, flat_map}
use Rattle.coll_script.specs.Matching.{differing_from, least}
use Rattle.coll_script.specs.PostingViews.{lists_view}
use Rattle.coll_script.proofs.matching.differing.Given as goal

abbrev pub invariant-loop-list : goal.invariant-loop-list
invariant-loop-list l =
    least l.line (flat_map (differing_from (slice_get l.firsts) 0) (drop l.list-index (lists_view l.lists)))
    ≡ least l.initial.line (flat_map (differing_from (slice_get l.firsts) 0) (lists_view l.lists))
