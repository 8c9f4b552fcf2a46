-- what the check has shown, and what the plans' steps make
use Rattle.std.proofs.Common.{◌≡◌, ap, ◌∙◌}
use Rattle.std.specs.Prelude.{filter_map}
use Rattle.std.proofs.lemmas.Result.{err_from_is_err_and}
use Rattle.coll_kinds.specs.Checks.{broken}
use Rattle.coll_sched.specs.Families.{family_exchanges}
use Rattle.coll_plans.specs.Plans.{family}
use Rattle.coll_plans.proofs.Plans.{unbroken}
use Rattle.coll_draw.specs.Code.{Collective}
use Rattle.coll_draw.specs.Drawings.{arrow_of, combination_of, copy_of, rounds_of, steps}
use Rattle.coll_draw.proofs.Refusing.{refused, accepted}
use Rattle.coll_draw.proofs.drawing.Drawing.of.Goals as goal

pub returns-in_err-check-clause-refusal : goal.returns-in_err-check-clause-refusal
returns-in_err-check-clause-refusal c =
    let p = err_from_is_err_and c.from_residual.result c.from_residual.ensures.1 in
    rw (p.1, p.2) (refused (broken c.args.sig c.args.n) c.in_err-check.field-0.0 c.in_err-check.ensures)

pub of-requires-clause-checked : goal.of-requires-clause-checked
of-requires-clause-checked c = unbroken (broken c.args.sig c.args.n) c.in_ok-check.field-0 c.in_ok-check.ensures

pub returns-in_err-plans-clause-refusal : goal.returns-in_err-plans-clause-refusal
returns-in_err-plans-clause-refusal c =
    let p = err_from_is_err_and c.from_residual-in_err-plans.result c.from_residual-in_err-plans.ensures.1 in
    accepted (broken c.args.sig c.args.n) c.from_residual-in_err-plans.result
    (unbroken (broken c.args.sig c.args.n) c.in_ok-check.field-0 c.in_ok-check.ensures)
    (rw (p.1, p.2) c.in_err-plans.ensures.refusal)

pub invariant_of-result : goal.invariant_of-result
invariant_of-result c =
    let of : c.in_ok-plans.plans ≡ record { sig = c.args.sig; n = c.args.n } = c.in_ok-plans.ensures.of in
    let made : c.in_ok-steps.steps.items ≡ steps c.args.n (family c.args.sig c.args.n) =
    c.in_ok-steps.ensures ∙ ap (λ (x : Collective). steps x.n (family x.sig x.n)) of in
    record {
      checked = unbroken (broken c.args.sig c.args.n) c.in_ok-check.field-0 c.in_ok-check.ensures;
      not_none = c.requires.not_none;
      few = c.requires.few;
      rounds_are = c.round_count.ensures ∙ ap (λ (x : Collective). rounds_of (family x.sig x.n)) of;
      exchanges_are = c.exchange_count.ensures ∙ ap (λ (x : Collective). family_exchanges x.n (family x.sig x.n)) of;
      arrows_are = c.in_ok-arrows_of.ensures ∙ ap (filter_map arrow_of) (c.deref.ensures.value ∙ made);
      combinations_are = c.in_ok-combinations_of.ensures ∙ ap (filter_map combination_of) (c.deref-2.ensures.value ∙ made);
      copies_are = c.in_ok-copies_of.ensures ∙ ap (filter_map copy_of) (c.deref-3.ensures.value ∙ made);
    }
