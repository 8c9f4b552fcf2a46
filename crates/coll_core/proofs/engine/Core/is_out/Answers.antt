use Rattle.coll_core.proofs.commit.Commit.{out_by, out_filled}
use Rattle.coll_core.proofs.engine.Core.is_out.Goals as goal

pub stands_at-requires : goal.stands_at-requires
stands_at-requires c =
    out_filled _ c.in-Ok.request.now c.ticket.result c.ticket-2.result c.args.work.now.ticket c.ticket.ensures c.ticket-2.ensures
    c.self.invariant c.in-Ok.ensures.found c.if-is_on.ensures

pub returns-then-is_on : goal.returns-then-is_on
returns-then-is_on c =
    out_by _ c.args.self.now c.self.view_is c.in-Ok.request.now c.args.work.now c.ticket.result c.ticket-2.result
    c.ticket.ensures c.ticket-2.ensures c.in-Ok.ensures.found c.if-is_on.ensures c.stands_at.result c.stands_at.ensures
