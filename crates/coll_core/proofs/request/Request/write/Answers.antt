use Rattle.std.proofs.Common.{◌∙◌, Some, ap, refl, sym, subst}
use Rattle.std.specs.Prelude.{IfSome}
use Rattle.coll_sched.specs.Actions.{Fits}
use Rattle.coll_core.specs.Requests.{schedule, shown}
use Rattle.coll_core.proofs.commit.WorkOut.{result_long}
use Rattle.coll_core.proofs.request.Request.write.Goals as goal

pub write-requires-clause-same : goal.write-requires-clause-same
write-requires-clause-same c =
    let w = c.in-Some-Combine in
    let r = c.requires.own.1 in
    result_long (shown c.args.self.now) (record { piece = r.own; bytes = c.args.bytes }) c.args.bytes w.field-0-0 w.field-0-1
    w.field-0-2 w.field-0-3 w.into (schedule (shown c.args.self.now)).size
    refl r.is r.stands (sym c.next.ensures.is ∙ (w.is ∙ ap Some w.field-0-is)) c.requires.sized
    (subst (λ o. IfSome o (λ action. Fits (schedule (shown c.args.self.now)).size action)) c.next.ensures.is c.next.ensures.fits)
