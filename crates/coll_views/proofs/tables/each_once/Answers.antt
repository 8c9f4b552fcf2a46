use Rattle.coll_views.specs.Tables.{added_once}
use Rattle.coll_views.proofs.Loops.{fold-at}
use Rattle.coll_views.proofs.tables.each_once.Goals as goal

pub loop-sig-preserved : goal.loop-sig-preserved
loop-sig-preserved c =
    rw c.in_ok-add_once.ensures
    (fold-at added_once c.args.sigs.now c.loop-sig.sig-index _ c.loop-sig.once.items _ c.loop-sig-test.true c.loop-sig.invariant)
