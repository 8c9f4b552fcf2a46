use Rattle.std.proofs.Common.{◌≡◌, map, take}
use Rattle.coll_parser.specs.Requests.{place_on}
use Rattle.coll_parser.specs.Code.{request_view}
use Rattle.coll_parser.proofs.request.place_on.Given as goal

abbrev pub invariant-loop-index : goal.invariant-loop-index
invariant-loop-index l = place_on l.comm (take l.index (map request_view l.requests)) ≡ place_on l.comm (map request_view l.requests)
