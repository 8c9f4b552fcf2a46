use Rattle.std.proofs.Common.{◌≡◌, ◌++◌, map, drop}
use Rattle.coll_parser.specs.Code.{request_view}
use Rattle.coll_script.specs.Postings.{posted_on}
use Rattle.coll_script.specs.PostingViews.{list_view}
use Rattle.coll_script.proofs.postings.posted_on.Given as goal

abbrev pub invariant-loop-request : goal.invariant-loop-request
invariant-loop-request l =
    list_view l.list.items ++ posted_on l.comm (drop l.request-index (map request_view l.requests)) ≡ posted_on l.comm (map request_view l.requests)
