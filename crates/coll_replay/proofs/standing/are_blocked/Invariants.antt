use Rattle.std.proofs.Common.{ℕ, ◌<◌}
use Rattle.coll_core.specs.Cores.{seen}
use Rattle.coll_replay.specs.Playing.{IsBlockedAt}
use Rattle.coll_replay.proofs.standing.are_blocked.Given as goal

abbrev pub invariant-loop-rank : goal.invariant-loop-rank
invariant-loop-rank l = (k : ℕ) → k < l.rank → IsBlockedAt (seen l.core) l.lines l.players k
