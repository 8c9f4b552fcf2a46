use Rattle.std.proofs.Common.{◌∙◌, ap}
use Rattle.coll_machine.specs.Lents.{lent_bytes}
use Rattle.coll_core.specs.Requests.{shown}
use Rattle.coll_core.specs.Cores.{seen, setting}
use Rattle.coll_refinement.proofs.engine.Reads.{lent_core}
use Rattle.coll_core.proofs.engine.Core.lent.Goals as goal

pub returns : goal.returns
returns c =
    c.lent.ensures
    ∙ (lent_core shown _ c.self.inside.arena c.self.inside.queues c.self.inside.matches c.self.invariant c.is_sound.ensures
    ∙ ap (λ p. lent_bytes (setting p) (seen p).state) c.self.view_is)
