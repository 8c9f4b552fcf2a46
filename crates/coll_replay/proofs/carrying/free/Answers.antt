use Rattle.std.proofs.Common.{ap, sym, ◌∙◌}
use Rattle.coll_verdict.specs.Standings.{holding_at}
use Rattle.coll_replay.specs.Playing.{holding}
use Rattle.coll_replay.proofs.CarriedOut.{freed}
use Rattle.coll_replay.proofs.carrying.free.Goals as goal

pub returns-in-Ok : goal.returns-in-Ok
returns-in-Ok c = λ yes.
    freed c.args.core.now c.free.new.self c.args.rank c.free.ensures.setting c.args.q c.in-Some.ticket (holding c.args.held.now) (holding c.hold.new.held)
    (sym c.in-Some.ensures)
    (c.hold.ensures yes ∙ ap (λ left. holding_at (holding c.args.held.now) c.args.q left) c.kept-left.ensures)
    c.in-Ok.ensures.frees
