use Rattle.std.proofs.Common.{◌≡◌, true, List, subst, arith}
use Rattle.std.specs.Prelude.{Vec}
use Rattle.std.specs.Global.{Global}
use Rattle.coll_parser.specs.declared.command.Command.{Command}
use Rattle.coll_replay.specs.Playing.{GoesOn}
use Rattle.coll_replay.proofs.Replays.{followed}
use Rattle.coll_replay.proofs.replaying.replayed.Goals as goal

pub loop-next-preserved : goal.loop-next-preserved
loop-next-preserved c =
    let yes : c.in_ok-follow.field-0 ≡ true = grind arith in
    followed _ _ _ _ _ _
    (subst (λ (lines : List (Vec Command Global)). GoesOn lines c.loop-next.core c.loop-next.players.items c.follow.new.core c.follow.new.players.items)
    c.deref.ensures.value (c.in_ok-follow.ensures yes))
    c.loop-next.invariant
