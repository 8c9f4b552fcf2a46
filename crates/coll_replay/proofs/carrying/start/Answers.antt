use Rattle.std.proofs.Common.{sym}
use Rattle.coll_replay.specs.Playing.{holding}
use Rattle.coll_replay.proofs.CarriedOut.{started}
use Rattle.coll_replay.proofs.carrying.start.Goals as goal
use Rattle.coll_replay.proofs.carrying.start.Goals.{in-Ok, in-Err}

pub returns : goal.returns
returns c =
    elim c.match-start.branch [
      | in-Ok w ↦ rw w.result-is (λ yes.
          started c.args.core.now c.start.new.self c.args.rank c.start.ensures.setting c.args.q c.args.given.now c.in_ok-bytes.bytes c.in-Some.ticket
          (holding c.args.held.now) c.in_ok-bytes.ensures.ok (sym c.in-Some.ensures) w.in-Ok.ensures.starts)
      | in-Err w ↦ rw w.result-is (λ no. absurd cc)
    ]
