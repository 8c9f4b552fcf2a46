use Rattle.std.proofs.Common.{◌≡◌, true, sym, ◌∙◌, arith}
use Rattle.coll_replay.specs.Playing.{holding}
use Rattle.coll_replay.proofs.CarriedOut.{taken_if}
use Rattle.coll_replay.proofs.carrying.take.Goals as goal

pub returns : goal.returns
returns c =
    let yes : c.names.result ≡ true = grind arith in
    taken_if c.args.core.now c.complete.new.core c.args.rank c.complete.ensures.setting c.args.named.now c.args.q (holding c.args.held.now)
    (holding c.complete.new.held) (sym c.names.ensures ∙ yes) c.complete.result c.complete.ensures.completes
