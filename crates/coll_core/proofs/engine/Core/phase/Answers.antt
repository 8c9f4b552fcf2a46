use Rattle.std.proofs.Common.{ap, sym, subst, arith}
use Rattle.coll_core.specs.Cores.{IsCore}
use Rattle.coll_core.proofs.between.LiveRequests.{list_in}
use Rattle.coll_core.proofs.engine.Core.phase.Goals as goal

-- src/engine.rt:106:12
pub is_on-requires : goal.is_on-requires
is_on-requires c =
    list_in c.args.self.now c.self.inside.arena c.args.ticket.slot 4 c.in_ok-comm.field-0.now
    (subst IsCore c.self.view_is c.self.invariant) (sym (ap (λ p. p.arena) c.self.view_is)) c.in_ok-comm.ensures.found (omega arith)

-- src/engine.rt:109:12
pub is_on-requires-2 : goal.is_on-requires-2
is_on-requires-2 c =
    list_in c.args.self.now c.self.inside.arena c.args.ticket.slot 6 c.in_ok-comm.field-0.now
    (subst IsCore c.self.view_is c.self.invariant) (sym (ap (λ p. p.arena) c.self.view_is)) c.in_ok-comm.ensures.found (omega arith)
