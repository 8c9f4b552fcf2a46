use Rattle.coll_replay.specs.Playing.{IsReplayed}
use Rattle.coll_replay.proofs.replaying.replayed.Given as goal

abbrev pub invariant-loop-next : goal.invariant-loop-next
invariant-loop-next l = IsReplayed l.script l.core l.lines.items l.players.items
