use Rattle.std.proofs.Common.{Option, subst}
use Rattle.std.specs.Prelude.{IfSome}
use Rattle.coll_replay.specs.declared.replaying.Replay.{Replay}
use Rattle.coll_replay.specs.Playing.{IsReplayed}
use Rattle.coll_replay.proofs.Replays.{ended_at}
use Rattle.coll_replay.proofs.replaying.ends_by.Goals as goal

pub returns-in-Some : goal.returns-in-Some
returns-in-Some c = λ yes.
    let replayed = subst (λ (o : Option Replay). IfSome o (λ replay. IsReplayed c.args.script.now replay.core replay.lines.items replay.players.items))
    c.in-Some.is c.in_ok-replay.ensures in
    ended_at c.args.script.now c.in-Some.replay.core c.in-Some.replay.lines.items _ c.in-Some.replay.players.items _ replayed c.deref.ensures.value
    c.deref-in-Some.ensures.value (c.are_at_ends.ensures yes)
