use Rattle.std.proofs.Common.{refl}
use Rattle.std.proofs.lemmas.Bool.{not-true}
use Rattle.coll_replay.specs.Playing.{holding}
use Rattle.coll_replay.proofs.CarriedOut.{swept_at, waited_all}
use Rattle.coll_replay.proofs.carrying.wait_all.Goals as goal

pub returns-in-Some : goal.returns-in-Some
returns-in-Some c = λ yes.
    waited_all c.args.core.now c.sweep.new.core c.args.rank (holding c.args.held.now) (holding c.sweep.new.held) c.in-Some.before c.args.named.now
    (swept_at c.args.core.now c.sweep.new.core c.args.rank c.args.named.now c.args.named.now (holding c.args.held.now)
    (holding c.sweep.new.held) c.in_ok-before.field-0 c.in-Some.before c.in_ok-before.ensures c.in-Some.is refl)
    (not-true c.in-Some.before.has_pending yes)
