use Rattle.std.proofs.Common.{Some, ap, subst}
use Rattle.std.specs.Prelude.{IfOk}
use Rattle.coll_traced.specs.Calls.{IsPosted}
use Rattle.coll_shared.specs.Ports.{Holding}
use Rattle.coll_shared.proofs.Telling.{held_told, none_told}
use Rattle.coll_shared.proofs.port.Port.post.Goals as goal
use Rattle.coll_shared.proofs.port.Port.post.Goals.{in-Ok, in-Err}

pub returns-clause-receipt : goal.returns-clause-receipt
returns-clause-receipt g c =
    let offer = c.args.offer in
    let rank = ap (λ (p : Holding). p.rank) c.self.view_is in
    let posted =
    subst (λ k. IfOk c.post-tally.result.1 (λ m. IsPosted k (Some m.0) c.args.comm offer.plan.sig offer.bytes m.1)) rank c.post-tally.ensures.posted in
    elim c.match-posted.branch [
      | in-Ok w ↦
          held_told (λ q e. IsPosted c.args.self.now.rank q c.args.comm offer.plan.sig offer.bytes e) c.post-tally.result.1
          c.match-posted.result w.in-Ok.ticket w.in-Ok.receipt w.of.result posted w.in-Ok.is w.of.ensures w.result-is
      | in-Err w ↦ none_told _ c.match-posted.result _ w.result-is
    ]
