use Rattle.std.proofs.Common.{sym, ◌∙◌}
use Rattle.coll_arena.proofs.Calls.{in_links, low_named}
use Rattle.coll_arena.proofs.arena.Arena.is_on.Goals as goal

pub list_of-requires : goal.list_of-requires
list_of-requires g c =
    in_links _ c.args.self.now c.self.inside.lent c.self.view_is c.self.invariant c.args.ticket.slot
    (low_named _ c.args.self.now c.self.inside.lent c.self.view_is c.self.invariant c.args.ticket (sym c.is_live.ensures ∙ c.if-is_live.true))
