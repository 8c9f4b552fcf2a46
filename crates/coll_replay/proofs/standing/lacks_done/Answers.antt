use Rattle.std.proofs.lemmas.Bool.{not-true}
use Rattle.coll_core.specs.Cores.{seen}
use Rattle.coll_replay.specs.Playing.{holding}
use Rattle.coll_replay.proofs.Stands.{lacks}
use Rattle.coll_replay.proofs.standing.lacks_done.Goals as goal

pub returns-then-found : goal.returns-then-found
returns-then-found c = λ yes.
    lacks (seen c.args.core.now) (holding c.args.held.now) c.args.named.now c.in_ok-found.found c.in_ok-found.ensures c.if-found.true
    (not-true c.in_ok-found.found.has_done yes)
