use Rattle.std.proofs.Common.{◌≡◌, ◌-◌, ◌++◌, Vec, map}
use Rattle.std.specs.Global.{Global}
use Rattle.std.specs.List.{range_with_len}
use Rattle.coll_report.specs.Views.{groups_seen, trace_seen}
use Rattle.coll_views.specs.declared.request.TracedRequest.{TracedRequest}
use Rattle.coll_views.specs.Requests.{all_requests, requests_by}
use Rattle.coll_views.proofs.request.RankRequests.of.Given as goal

abbrev pub invariant-loop-rank : goal.invariant-loop-rank
invariant-loop-rank l =
    map (λ (own : Vec TracedRequest Global). own.items) l.all.items
    ++ map (requests_by (groups_seen l.groups) (trace_seen l.trace)) (range_with_len l.rank (l.ranks - l.rank))
    ≡ all_requests l.ranks (groups_seen l.groups) (trace_seen l.trace)
