use Rattle.std.proofs.Common.{◌≡◌, ◌≤◌, true, length, below_more, arith}
use Rattle.coll_core.specs.Cores.{seen}
use Rattle.coll_replay.specs.Playing.{IsBlockedAt}
use Rattle.coll_replay.proofs.Stands.{all_blocked}
use Rattle.coll_replay.proofs.standing.are_blocked.Goals as goal

pub loop-rank-preserved : goal.loop-rank-preserved
loop-rank-preserved c =
    let yes : c.in_ok-is_blocked_at.field-0 ≡ true = grind arith in
    below_more (IsBlockedAt (seen c.args.core.now) c.args.lines.now c.args.players.now) c.loop-rank.rank c.loop-rank.invariant
    (c.in_ok-is_blocked_at.ensures yes)

pub returns : goal.returns
returns c = λ yes.
    let far : length c.args.lines.now ≤ c.loop-rank.rank = omega arith in
    all_blocked (seen c.args.core.now) c.args.lines.now c.args.players.now c.loop-rank.rank far c.loop-rank.invariant
