use Rattle.coll_report.specs.Views.{groups_seen, seen}
use Rattle.coll_script.proofs.Loops.{drop-view}
use Rattle.coll_views.specs.Requests.{made_by}
use Rattle.coll_views.proofs.Loops.{filter_map-more}
use Rattle.coll_views.proofs.request.requests_by.Goals as goal

pub loop-entry-preserved : goal.loop-entry-preserved
loop-entry-preserved c =
    let front = drop-view seen c.args.trace.now c.loop-entry.entry-index c.entry-item.result c.loop-entry-test.true c.entry-item.is in
    rw c.in_ok-push_made.ensures
    (filter_map-more (made_by (groups_seen c.args.groups.now) c.args.rank) _ c.loop-entry.entry-index (seen c.entry-item.result) _ c.loop-entry.own.items _
    front c.in_ok-made.ensures c.loop-entry.invariant)
