use Rattle.std.proofs.Common.{◌≡◌, ◌++◌, map, drop}
use Rattle.coll_parser.specs.Code.{requests_view}
use Rattle.coll_script.specs.Postings.{posted_on, requests_of, postings}
use Rattle.coll_script.specs.PostingViews.{lists_view}
use Rattle.coll_script.proofs.postings.postings.Given as goal

abbrev pub invariant-loop-rank : goal.invariant-loop-rank
invariant-loop-rank l =
    lists_view l.lists.items ++ map (λ rank. posted_on l.comm (requests_of (requests_view l.ranks) rank)) (drop l.rank-index l.group)
    ≡ postings (requests_view l.ranks) l.comm l.group
