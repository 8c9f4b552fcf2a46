use Rattle.std.proofs.Common.{ap, sym, ◌∙◌}
use Rattle.coll_arena.specs.ListNames.{number_of}
use Rattle.coll_arena.specs.Slots.{lent}
use Rattle.coll_arena.proofs.Calls.{in_links, low_named, replaces, replaces_lent, replaces_puts}
use Rattle.coll_arena.proofs.arena.Arena.replace.Goals as goal

pub returns-clause-replaced : goal.returns-clause-replaced
returns-clause-replaced g c =
    (replaces _ c.args.self.now c.self.inside.lent c.self.view_is c.self.invariant c.args.ticket
    (sym c.is_live.ensures ∙ c.if-not-is_live.false) (number_of c.args.list) c.requires.live_list c.requires.list_in
    c.args.request _ _ _ c.replace-earlier.ensures.after c.number.ensures c.move_back.ensures).is

pub move_back-requires-clause-node_in : goal.move_back-requires-clause-node_in
move_back-requires-clause-node_in g c =
    in_links _ c.args.self.now c.self.inside.lent c.self.view_is c.self.invariant c.args.ticket.slot
    (low_named _ c.args.self.now c.self.inside.lent c.self.view_is c.self.invariant c.args.ticket (sym c.is_live.ensures ∙ c.if-not-is_live.false))

pub invariant_of-self : goal.invariant_of-self
invariant_of-self g c =
    (replaces _ c.args.self.now c.self.inside.lent c.self.view_is c.self.invariant c.args.ticket
    (sym c.is_live.ensures ∙ c.if-not-is_live.false) (number_of c.args.list) c.requires.live_list c.requires.list_in
    c.args.request _ _ _ c.replace-earlier.ensures.after c.number.ensures c.move_back.ensures).kept

pub returns-clause-lent : goal.returns-clause-lent
returns-clause-lent g c =
    ap lent (replaces _ c.args.self.now c.self.inside.lent c.self.view_is c.self.invariant c.args.ticket
    (sym c.is_live.ensures ∙ c.if-not-is_live.false) (number_of c.args.list) c.requires.live_list c.requires.list_in
    c.args.request _ _ _ c.replace-earlier.ensures.after c.number.ensures c.move_back.ensures).is
    ∙ replaces_lent _ c.args.self.now c.self.inside.lent c.self.view_is c.self.invariant c.args.ticket
    (sym c.is_live.ensures ∙ c.if-not-is_live.false) (number_of c.args.list) c.requires.live_list c.requires.list_in c.args.request

pub returns-clause-puts : goal.returns-clause-puts
returns-clause-puts g c =
    replaces_puts _ c.args.self.now c.self.inside.lent c.self.view_is c.self.invariant c.args.ticket
    (sym c.is_live.ensures ∙ c.if-not-is_live.false) (number_of c.args.list) c.requires.live_list c.requires.list_in
    c.args.request _ (replaces _ c.args.self.now c.self.inside.lent c.self.view_is c.self.invariant c.args.ticket
    (sym c.is_live.ensures ∙ c.if-not-is_live.false) (number_of c.args.list) c.requires.live_list c.requires.list_in
    c.args.request _ _ _ c.replace-earlier.ensures.after c.number.ensures c.move_back.ensures).is
