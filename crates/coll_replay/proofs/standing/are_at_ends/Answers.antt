use Rattle.std.proofs.Common.{◌≡◌, length, sym, ◌∙◌, arith}
use Rattle.coll_replay.proofs.Stands.{ended_below, ends_there}
use Rattle.coll_replay.proofs.standing.are_at_ends.Goals as goal

pub returns-then-players-lines : goal.returns-then-players-lines
returns-then-players-lines c = λ yes.
    let same : length c.args.players.now ≡ length c.args.lines.now = omega arith in
    ends_there c.args.lines.now c.args.players.now same (ended_below c.args.lines.now c.args.players.now (sym c.all_at_ends.ensures ∙ yes))
