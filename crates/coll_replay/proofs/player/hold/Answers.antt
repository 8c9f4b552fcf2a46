use Rattle.std.proofs.Common.{◌<◌, length, arith}
use Rattle.coll_replay.proofs.Holdings.{holding_set}
use Rattle.coll_replay.proofs.player.hold.Goals as goal

pub returns-then-q-held : goal.returns-then-q-held
returns-then-q-held c = λ yes.
    let low : c.args.q < length c.args.held.now = omega arith in
    holding_set c.args.held.now c.args.q c.args.what low
