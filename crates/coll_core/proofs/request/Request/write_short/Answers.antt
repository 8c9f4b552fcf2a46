use Rattle.std.proofs.Common.{◌∙◌, Some, ap, sym, subst}
use Rattle.std.specs.Prelude.{IfSome}
use Rattle.coll_sched.specs.Actions.{Fits}
use Rattle.coll_core.specs.Requests.{schedule, shown}
use Rattle.coll_core.proofs.commit.WorkOut.{result_long}
use Rattle.coll_core.proofs.request.Request.write_short.Goals as goal

pub write-requires-clause-same : goal.write-requires-clause-same
write-requires-clause-same c =
    let w = c.in-Some-Combine in
    result_long (shown c.args.self.now) c.args.done c.into_result.result w.field-0-0 w.field-0-1 w.field-0-2 w.field-0-3 w.into
    (schedule (shown c.args.self.now)).size
    c.into_result.ensures.is c.into_result.ensures.combined c.requires.stands (sym c.next.ensures.is ∙ (w.is ∙ ap Some w.field-0-is)) c.requires.sized
    (subst (λ o. IfSome o (λ action. Fits (schedule (shown c.args.self.now)).size action)) c.next.ensures.is c.next.ensures.fits)
