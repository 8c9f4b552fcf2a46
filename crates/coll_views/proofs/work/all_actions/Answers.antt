use Rattle.std.specs.Prelude.{List}
use Rattle.coll_parser.proofs.Lists.{drop-more}
use Rattle.coll_sched.specs.declared.action.Action.{Action}
use Rattle.coll_views.proofs.Loops.{flat_map-more}
use Rattle.coll_views.proofs.work.all_actions.Goals as goal

pub loop-round-preserved : goal.loop-round-preserved
loop-round-preserved c =
    let front = drop-more c.args.rounds.now c.loop-round.round-index c.round-item.result c.loop-round-test.true c.round-item.is in
    rw (c.in_ok-push_all.ensures, c.actions.ensures)
    (flat_map-more (λ (actions : List Action). actions) c.args.rounds.now c.loop-round.round-index c.round-item.result
    c.loop-round.actions.items _ front c.loop-round.invariant)
