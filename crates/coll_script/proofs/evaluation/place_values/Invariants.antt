use Rattle.std.proofs.Common.{◌≡◌, ◌++◌, ◌-◌, map, length}
use Rattle.std.specs.List.{range_with_len}
use Rattle.coll_parser.specs.Code.{request_view}
use Rattle.coll_script.specs.Outcomes.{start_values, place_values, place_view}
use Rattle.coll_script.specs.PostingViews.{lists_view}
use Rattle.coll_script.proofs.evaluation.place_values.Given as goal

abbrev pub invariant-loop-start : goal.invariant-loop-start
invariant-loop-start l =
    place_view l.starts.items
    ++ map (start_values (lists_view l.lists) l.place (request_view l.request)) (range_with_len l.start (length l.request.starts.items - l.start))
    ≡ place_values (lists_view l.lists) l.place (request_view l.request)
