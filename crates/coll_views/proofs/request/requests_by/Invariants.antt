use Rattle.std.proofs.Common.{◌≡◌, ◌++◌, drop}
use Rattle.std.specs.Prelude.{filter_map}
use Rattle.coll_report.specs.Views.{groups_seen, trace_seen}
use Rattle.coll_views.specs.Requests.{made_by, requests_by}
use Rattle.coll_views.proofs.request.requests_by.Given as goal

abbrev pub invariant-loop-entry : goal.invariant-loop-entry
invariant-loop-entry l =
    l.own.items ++ filter_map (made_by (groups_seen l.groups) l.rank) (drop l.entry-index (trace_seen l.trace))
    ≡ requests_by (groups_seen l.groups) (trace_seen l.trace) l.rank
