use Rattle.coll_replay.specs.Playing.{holding}
use Rattle.coll_replay.proofs.CarriedOut.{swept_at, tested}
use Rattle.coll_replay.proofs.carrying.test.Goals as goal

pub returns-in-Some : goal.returns-in-Some
returns-in-Some c = λ yes.
    tested c.args.core.now c.sweep.new.core c.args.rank (holding c.args.held.now) (holding c.sweep.new.held) c.in-Some.field-0 c.args.q
    (swept_at c.args.core.now c.sweep.new.core c.args.rank c.one-named.result _ (holding c.args.held.now)
    (holding c.sweep.new.held) c.in_ok-sweep.field-0 c.in-Some.field-0 c.in_ok-sweep.ensures c.in-Some.is c.one-named.ensures)
