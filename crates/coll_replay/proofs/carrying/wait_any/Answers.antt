use Rattle.std.proofs.lemmas.Bool.{not-true}
use Rattle.coll_replay.specs.Playing.{holding}
use Rattle.coll_replay.proofs.CarriedOut.{waited_for_none}
use Rattle.coll_replay.proofs.carrying.wait_any.Goals as goal

pub returns-in_ok-found-in-None : goal.returns-in_ok-found-in-None
returns-in_ok-found-in-None c = λ yes.
    waited_for_none c.args.core.now c.args.rank c.args.named.now (holding c.args.held.now) c.in_ok-found-in-None.found c.in_ok-found-in-None.ensures
    (not-true c.in_ok-found-in-None.found.has_active yes)
