-- what the check and the builder have shown
use Rattle.std.proofs.Common.{◌≡◌, arith, sym, subst, rules}
use Rattle.std.specs.Arc.{arc_value}
use Rattle.std.proofs.lemmas.Result.{err_from_is_err_and}
use Rattle.coll_kinds.specs.declared.signature.Signature.{Signature}
use Rattle.coll_kinds.specs.Checks.{broken}
use Rattle.coll_plans.specs.Plans.{IsPlan}
use Rattle.coll_plans.proofs.Plans.{all_served, unbroken, refused, accepted}
use Rattle.coll_plans.proofs.planning.plan.Goals as goal

pub returns-in_err-check-clause-refusal : goal.returns-in_err-check-clause-refusal
returns-in_err-check-clause-refusal c =
    let p = err_from_is_err_and c.from_residual.result c.from_residual.ensures.1 in
    rw (p.1, p.2) (refused (broken c.args.sig c.args.n) c.in_err-check.field-0.0 c.in_err-check.ensures)

pub schedule_of-requires-clause-checked : goal.schedule_of-requires-clause-checked
schedule_of-requires-clause-checked c = unbroken (broken c.args.sig c.args.n) c.in_ok-check.field-0 c.in_ok-check.ensures

pub returns-in_err-schedule-clause-family : goal.returns-in_err-schedule-clause-family
returns-in_err-schedule-clause-family c = λ checked. all_served c.args.sig c.args.n checked (omega arith) c.requires.few

pub returns-in_err-schedule-clause-refusal : goal.returns-in_err-schedule-clause-refusal
returns-in_err-schedule-clause-refusal c =
    let p = err_from_is_err_and c.from_residual-in_err-schedule.result c.from_residual-in_err-schedule.ensures.1 in
    accepted (broken c.args.sig c.args.n) c.from_residual-in_err-schedule.result
    (unbroken (broken c.args.sig c.args.n) c.in_ok-check.field-0 c.in_ok-check.ensures)
    (rw (p.1, p.2) c.in_err-schedule.ensures.refusal)

pub returns-in_err-sig-clause-family : goal.returns-in_err-sig-clause-family
returns-in_err-sig-clause-family c = λ checked. all_served c.args.sig c.args.n checked (omega arith) c.requires.few

pub returns-in_err-sig-clause-refusal : goal.returns-in_err-sig-clause-refusal
returns-in_err-sig-clause-refusal c =
    accepted (broken c.args.sig c.args.n) c.from_residual-in_err-sig.result
    (unbroken (broken c.args.sig c.args.n) c.in_ok-check.field-0 c.in_ok-check.ensures) (search rules)

pub invariant_of-of_shared : goal.invariant_of-of_shared
invariant_of-of_shared c =
    let same : arc_value c.in_ok-sig.sig ≡ c.args.sig = search rules in
    subst (λ (s : Signature). IsPlan s c.args.n c.args.r c.in_ok-schedule.schedule) (sym same)
    (record {
      checked = unbroken (broken c.args.sig c.args.n) c.in_ok-check.field-0 c.in_ok-check.ensures;
      low = c.requires.member;
      few = c.requires.few;
      schedule_is = c.in_ok-schedule.ensures.schedule;
    })

pub returns-clause-family : goal.returns-clause-family
returns-clause-family c = λ checked. all_served c.args.sig c.args.n checked (omega arith) c.requires.few

pub returns-clause-refusal : goal.returns-clause-refusal
returns-clause-refusal c =
    accepted (broken c.args.sig c.args.n) c.of_shared.result
    (unbroken (broken c.args.sig c.args.n) c.in_ok-check.field-0 c.in_ok-check.ensures) c.of_shared.ensures.refused
