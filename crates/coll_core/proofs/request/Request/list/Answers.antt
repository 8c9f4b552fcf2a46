use Rattle.std.proofs.Common.{◌∙◌, Some, ap, refl, sym}
use Rattle.coll_core.proofs.values.Options.{none_at, some_at, is_some-true, is_some-false}
use Rattle.coll_sched.specs.declared.action.Action.TheVariants.{Send, Copy, Combine, Recv}
use Rattle.coll_match.specs.Instances.{mail}
use Rattle.coll_refinement.specs.Sound.{ready, queued}
use Rattle.coll_core.proofs.request.Request.list.Goals as goal

pub returns-then-ready-clause-stands : goal.returns-then-ready-clause-stands
returns-then-ready-clause-stands c =
    let h = is_some-true (mail c.args.matches.now c.key.result c.in-Some-Recv.of c.member.result c.args.self.now.round) c.if-ready.ensures in
    ready (Recv c.in-Some-Recv.of c.in-Some-Recv.field-0-1) refl refl
    (sym c.next.ensures.is ∙ (c.in-Some-Recv.is ∙ ap Some c.in-Some-Recv.field-0-is))
    (some_at (λ k m. mail c.args.matches.now k c.in-Some-Recv.of m c.args.self.now.round) c.key.result _ c.member.result _
    c.key.ensures c.member.ensures.member h)

pub returns-else-ready-clause-stands : goal.returns-else-ready-clause-stands
returns-else-ready-clause-stands c =
    let h = is_some-false (mail c.args.matches.now c.key.result c.in-Some-Recv.of c.member.result c.args.self.now.round) c.if-ready.ensures in
    queued c.in-Some-Recv.of c.in-Some-Recv.field-0-1 refl refl
    (sym c.next.ensures.is ∙ (c.in-Some-Recv.is ∙ ap Some c.in-Some-Recv.field-0-is))
    (none_at (λ k m. mail c.args.matches.now k c.in-Some-Recv.of m c.args.self.now.round) c.key.result _ c.member.result _
    c.key.ensures c.member.ensures.member h)

pub returns-in-Some-Send-clause-stands : goal.returns-in-Some-Send-clause-stands
returns-in-Some-Send-clause-stands c =
    ready (Send c.in-Some-Send.field-0-0 c.in-Some-Send.field-0-1) refl refl
    (sym c.next.ensures.is ∙ (c.in-Some-Send.is ∙ ap Some c.in-Some-Send.field-0-is)) tt

pub returns-in-Some-Copy-clause-stands : goal.returns-in-Some-Copy-clause-stands
returns-in-Some-Copy-clause-stands c =
    ready (Copy c.in-Some-Copy.field-0-0 c.in-Some-Copy.field-0-1) refl refl
    (sym c.next.ensures.is ∙ (c.in-Some-Copy.is ∙ ap Some c.in-Some-Copy.field-0-is)) tt

pub returns-in-Some-Combine-clause-stands : goal.returns-in-Some-Combine-clause-stands
returns-in-Some-Combine-clause-stands c =
    let w = c.in-Some-Combine in
    ready (Combine w.field-0-0 w.field-0-1 w.field-0-2 w.field-0-3 w.field-0-4) refl refl
    (sym c.next.ensures.is ∙ (w.is ∙ ap Some w.field-0-is)) tt
