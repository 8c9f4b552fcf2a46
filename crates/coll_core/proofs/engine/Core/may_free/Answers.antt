use Rattle.std.proofs.Common.{ap, sym, subst, arith}
use Rattle.coll_core.specs.Cores.{IsCore}
use Rattle.coll_core.proofs.between.LiveRequests.{list_in}
use Rattle.coll_core.proofs.engine.Core.may_free.Goals as goal

pub is_on-requires : goal.is_on-requires
is_on-requires c =
    list_in c.args.self.now c.self.inside.arena c.args.ticket.slot 4 c.in_ok-request.request.now
    (subst IsCore c.self.view_is c.self.invariant) (sym (ap (λ p. p.arena) c.self.view_is)) c.in_ok-request.ensures.found (omega arith)
