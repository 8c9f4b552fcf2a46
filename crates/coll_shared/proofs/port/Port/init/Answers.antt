use Rattle.std.proofs.Common.{Some, ap, subst}
use Rattle.std.specs.Prelude.{IfOk}
use Rattle.coll_traced.specs.Calls.{IsInited}
use Rattle.coll_shared.specs.Ports.{Holding}
use Rattle.coll_shared.proofs.Telling.{held_told, inited, none_told}
use Rattle.coll_shared.proofs.port.Port.init.Goals as goal
use Rattle.coll_shared.proofs.port.Port.init.Goals.{in-Ok, in-Err}

pub returns-clause-receipt : goal.returns-clause-receipt
returns-clause-receipt g c =
    let plan = c.args.plan in
    let rank = ap (λ (p : Holding). p.rank) c.self.view_is in
    let made = subst (λ k. IfOk c.init-made.result (λ m. IsInited k (Some m.0) c.args.comm plan.sig m.1)) rank
    (inited _ _ _ c.init-made.result c.init-made.ensures.receipt) in
    elim c.match-made.branch [
      | in-Ok w ↦
          held_told (λ q e. IsInited c.args.self.now.rank q c.args.comm plan.sig e) c.init-made.result c.match-made.result
          w.in-Ok.ticket w.in-Ok.receipt w.of.result made w.in-Ok.is w.of.ensures w.result-is
      | in-Err w ↦ none_told _ c.match-made.result _ w.result-is
    ]
