use Rattle.coll_report.specs.Views.{groups_seen, trace_seen}
use Rattle.coll_views.specs.Requests.{requests_by}
use Rattle.coll_views.proofs.Loops.{rows-more}
use Rattle.coll_views.proofs.request.RankRequests.of.Goals as goal

pub loop-rank-preserved : goal.loop-rank-preserved
loop-rank-preserved c =
    rw c.in_ok-push.ensures.items
    (rows-more (requests_by (groups_seen c.args.groups.now) (trace_seen c.args.trace.now)) c.args.ranks c.loop-rank.rank c.loop-rank.all.items _ _
    c.loop-rank-test.true c.in_ok-own.ensures c.loop-rank.invariant)
