use Rattle.std.proofs.lemmas.Bool.{not-true}
use Rattle.coll_replay.specs.Playing.{holding}
use Rattle.coll_replay.proofs.CarriedOut.{swept_at, waited}
use Rattle.coll_replay.proofs.carrying.wait.Goals as goal

pub returns-in-Some : goal.returns-in-Some
returns-in-Some c = λ yes.
    waited c.args.core.now c.sweep.new.core c.args.rank (holding c.args.held.now) (holding c.sweep.new.held) c.in-Some.before c.args.q
    (swept_at c.args.core.now c.sweep.new.core c.args.rank c.one-named.result _ (holding c.args.held.now)
    (holding c.sweep.new.held) c.in_ok-before.field-0 c.in-Some.before c.in_ok-before.ensures c.in-Some.is c.one-named.ensures)
    (not-true c.in-Some.before.has_pending yes)
