use Rattle.coll_views.proofs.Loops.{append-at}
use Rattle.coll_views.proofs.work.push_all.Goals as goal

pub loop-action-preserved : goal.loop-action-preserved
loop-action-preserved c =
    rw c.in_ok-push_one.ensures
    (append-at c.args.more.now c.loop-action.action-index _ c.loop-action.actions.items _ c.loop-action-test.true c.loop-action.invariant)
