use Rattle.std.proofs.Common.{◌≡◌, drop}
use Rattle.std.specs.Prelude.{slice_get}
use Rattle.coll_script.specs.Matching.{differing_from, least}
use Rattle.coll_script.specs.PostingViews.{list_view}
use Rattle.coll_script.proofs.matching.differing_in.Given as goal

abbrev pub invariant-loop-place : goal.invariant-loop-place
invariant-loop-place l =
    least l.line (differing_from (slice_get l.firsts) l.place (drop l.place (list_view l.list)))
    ≡ least l.initial.line (differing_from (slice_get l.firsts) 0 (list_view l.list))
