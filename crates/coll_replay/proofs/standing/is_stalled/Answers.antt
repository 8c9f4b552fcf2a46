use Rattle.std.proofs.Common.{◌≡◌, true, sym, ◌∙◌, arith}
use Rattle.coll_replay.proofs.Stands.{stalls_there}
use Rattle.coll_replay.proofs.Sweeping.{if_so}
use Rattle.coll_replay.proofs.standing.is_stalled.Goals as goal

pub returns : goal.returns
returns c =
    let quiet : c.quiet.result ≡ true = grind arith in
    let short : c.is_one_short.result ≡ true = grind arith in
    if_so c.are_blocked.result
    (λ blocked.
    stalls_there c.args.lines.now c.args.players.now c.args.core.now c.quiet_stalls.ensures (c.quiet.ensures.0 quiet)
    (sym c.is_one_short.ensures ∙ short) blocked)
    c.are_blocked.ensures
