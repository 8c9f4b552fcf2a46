use Rattle.std.proofs.Common.{◌≡◌, drop}
use Rattle.coll_script.specs.Matching.{started_alike}
use Rattle.coll_script.specs.PostingViews.{list_view}
use Rattle.coll_script.proofs.matching.started_alike.Given as goal

abbrev pub invariant-loop-place : goal.invariant-loop-place
invariant-loop-place l =
    started_alike (drop l.place (list_view l.first)) (drop l.place (list_view l.list)) ≡ started_alike (list_view l.first) (list_view l.list)
