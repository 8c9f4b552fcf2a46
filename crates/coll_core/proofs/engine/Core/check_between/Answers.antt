use Rattle.std.proofs.Common.{subst}
use Rattle.coll_core.specs.BetweenCalls.{BetweenCalls}
use Rattle.coll_core.proofs.between.Conditions.{between_calls}
use Rattle.coll_core.proofs.engine.Core.check_between.Goals as goal

pub returns : goal.returns
returns c = subst BetweenCalls c.self.view_is (between_calls _ c.self.invariant c.is_sound.ensures)
