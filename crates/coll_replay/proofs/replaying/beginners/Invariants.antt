use Rattle.coll_replay.specs.Playing.{AreBeginners}
use Rattle.coll_replay.proofs.replaying.beginners.Given as goal

abbrev pub invariant-loop : goal.invariant-loop
invariant-loop l = AreBeginners l.players.items
