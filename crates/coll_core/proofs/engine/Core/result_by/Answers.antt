use Rattle.std.proofs.Common.{◌∙◌, ap}
use Rattle.coll_core.specs.Works.{Piece}
use Rattle.coll_core.proofs.commit.Commit.{out_filled}
use Rattle.coll_core.proofs.engine.Core.result_by.Goals as goal

pub result_by-requires : goal.result_by-requires
result_by-requires c =
    let t_is = c.ticket-ticket.ensures ∙ ap (λ (w : Piece). w.ticket) c.work.ensures in
    out_filled _ c.in-Ok.request.now c.ticket-ticket.result c.ticket-ticket.result c.args.done.piece.ticket t_is t_is
    c.self.invariant c.in-Ok.ensures.found c.if-not-is_on.ensures
