use Rattle.std.proofs.Common.{◌≡◌, ◌++◌, drop}
use Rattle.coll_parser.specs.Code.{rows_view, requests_view}
use Rattle.coll_script.specs.Postings.{postings_from}
use Rattle.coll_script.specs.PostingViews.{all_lists_view}
use Rattle.coll_script.proofs.postings.all_postings.Given as goal

abbrev pub invariant-loop-comm : goal.invariant-loop-comm
invariant-loop-comm l =
    all_lists_view l.all.items ++ postings_from (requests_view l.ranks) l.comm (drop l.comm (rows_view l.groups))
    ≡ postings_from (requests_view l.ranks) 0 (rows_view l.groups)
