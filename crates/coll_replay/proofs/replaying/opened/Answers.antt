use Rattle.std.proofs.Common.{ap, sym, subst, ◌∙◌}
use Rattle.coll_machine.specs.Common.{AreGroups, Setting}
use Rattle.coll_parser.specs.Histories.{History}
use Rattle.coll_verdict.specs.Stalls.{lines_of}
use Rattle.coll_replay.specs.Playing.{AreLines}
use Rattle.coll_replay.proofs.Replays.{opened}
use Rattle.coll_replay.proofs.replaying.opened.Goals as goal

pub returns : goal.returns
returns c =
    opened c.args.script.now c.in_ok-core.core c.in_ok-lines.lines.items c.in_ok-players.players.items c.begins_where_opened.ensures
    c.in_ok-core.ensures.idle
    (ap (λ (g : Setting). g.groups) c.in_ok-core.ensures.setting ∙ c.in_ok-config.ensures)
    (subst (λ (g : Setting). AreGroups g) (sym c.in_ok-core.ensures.setting) (c.configs_are_groups.ensures c.in_ok-config.config c.in_ok-core.ensures.fits))
    (subst (λ (h : History). AreLines c.in_ok-lines.lines.items (lines_of h)) c.history.ensures c.in_ok-lines.ensures)
    c.in_ok-players.ensures
