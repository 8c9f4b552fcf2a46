use Rattle.std.proofs.Common.{subst}
use Rattle.coll_refinement.specs.FreeLocks.{NothingGoes}
use Rattle.coll_refinement.proofs.engine.Reads.{quiet_core}
use Rattle.coll_core.specs.Cores.{tables}
use Rattle.coll_core.specs.Phases.{IsQuiet}
use Rattle.coll_core.specs.Requests.{shown}
use Rattle.coll_core.proofs.engine.Core.check_quiet.Goals as goal

pub returns : goal.returns
returns c =
    subst (λ p. IsQuiet p → NothingGoes (tables p)) c.self.view_is
    (λ quiet. quiet_core shown _ c.self.inside.arena c.self.inside.queues c.self.inside.matches c.self.invariant c.is_sound.ensures quiet.ready quiet.running)
