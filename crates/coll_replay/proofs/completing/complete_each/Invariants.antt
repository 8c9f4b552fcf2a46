use Rattle.std.proofs.Common.{◌≡◌}
use Rattle.coll_core.specs.Cores.{seen, setting}
use Rattle.coll_replay.specs.Playing.{holding}
use Rattle.coll_verdict.specs.Standings.{Completes}
use Rattle.coll_replay.proofs.completing.complete_each.Given as goal

abbrev pub invariant-loop-index : goal.invariant-loop-index
invariant-loop-index l = record {
  set : setting l.core ≡ setting l.initial.core;
  completes : Completes (setting l.initial.core) l.rank l.named (seen l.initial.core) (holding l.initial.held) (seen l.core) (holding l.held);
}
