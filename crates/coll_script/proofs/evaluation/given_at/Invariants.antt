use Rattle.std.proofs.Common.{◌≡◌, ◌++◌, map, drop, List}
use Rattle.std.specs.Prelude.{slice_get}
use Rattle.coll_parser.specs.Requests.{Request}
use Rattle.coll_parser.specs.Code.{rows_view}
use Rattle.coll_script.specs.Meaning.{given_by, given_at}
use Rattle.coll_script.specs.PostingViews.{lists_view}
use Rattle.coll_script.proofs.evaluation.given_at.Given as goal

abbrev pub invariant-loop-list : goal.invariant-loop-list
invariant-loop-list l =
    rows_view l.rows.items ++ map (λ (list : List Request). given_by l.start (slice_get list l.place)) (drop l.list-index (lists_view l.lists))
    ≡ given_at (lists_view l.lists) l.place l.start
