use Rattle.std.proofs.Common.{◌<◌, List, length, refl, sym, subst, arith}
use Rattle.std.proofs.lemmas.Bool.{ltb-true}
use Rattle.std.proofs.lemmas.Option.{slice_get_read}
use Rattle.coll_parser.specs.declared.command.Command.{Command}
use Rattle.coll_replay.specs.Playing.{Advances}
use Rattle.coll_replay.proofs.Replays.{carried}
use Rattle.coll_replay.proofs.replaying.carry.Goals as goal

pub returns : goal.returns
returns c = λ yes.
    let found = c.in-Some.ensures.lookup in
    let within : c.args.rank < length c.args.lines.now = ltb-true _ _ (sym found.0) in
    let low : c.args.rank < length c.args.players.now.items = omega (arith, c.if-rank-len.false, c.len.ensures) in
    carried c.args.lines.now c.args.core.now c.advance.new.core c.args.players.now.items c.args.rank c.in-Some.commands.now c.index_mut-player.result.now
    c.advance.new.player c.goes_on_by_calls.ensures
    (slice_get_read c.args.lines.now _ c.args.rank c.in-Some.commands.now refl within found.1)
    (slice_get_read c.args.players.now.items _ c.args.rank c.index_mut-player.result.now refl low c.index_mut-player.ensures.value)
    (subst (λ (commands : List Command). Advances c.args.core.now c.advance.new.core c.args.rank commands c.index_mut-player.result.now c.advance.new.player)
    c.deref.ensures.value (c.in_ok-is_made.ensures yes))
