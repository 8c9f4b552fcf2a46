use Rattle.coll_core.proofs.step.Step.{acts_without_work, by_inside, by_not_quiet, combines_first, first_of, not_combine, steps_on}
use Rattle.std.proofs.Common.{Ok, ap, inr, refl, subst, sym}
use Rattle.coll_sched.specs.Actions.{IsCombine}
use Rattle.coll_core.proofs.engine.Core.move_on.Goals as goal

pub next_of-requires : goal.next_of-requires
next_of-requires c = first_of _ c.args.self.now c.in-Some.ticket c.self.view_is (c.first.ensures.found c.in-Some.ticket c.in-Some.is)

pub returns-in_ok-act-in_default-next_of : goal.returns-in_ok-act-in_default-next_of
returns-in_ok-act-in_default-next_of c =
    let is_first = first_of _ c.args.self.now c.in-Some.ticket c.self.view_is (c.first.ensures.found c.in-Some.ticket c.in-Some.is) in
    record {
      quiet = (
        (λ q. absurd (by_not_quiet c.in_ok-act-in_default-next_of.field-0 c.by.result c.by.ensures (ap Ok q))),
        λ h. absurd (acts_without_work c.args.self.now c.in-Some.ticket c.next_of.result is_first c.next_of.ensures
            (not_combine c.next_of.result c.in_default-next_of.not-Combine) h),
      );
      steps = steps_on c.args.self.now c.act.new.self c.in_ok-act-in_default-next_of.field-0 c.by.result c.by.ensures
          c.in_ok-act-in_default-next_of.ensures.acts;
      inside = by_inside c.in_ok-act-in_default-next_of.field-0 c.by.result c.by.ensures;
      err = tt;
      refusal = tt;
    }

pub returns-in-Combine-clause-quiet : goal.returns-in-Combine-clause-quiet
returns-in-Combine-clause-quiet c =
    let is_first = first_of _ c.args.self.now c.in-Some.ticket c.self.view_is (c.first.ensures.found c.in-Some.ticket c.in-Some.is) in (
      (λ q. inr (combines_first c.args.self.now c.in-Some.ticket c.next_of.result is_first c.next_of.ensures (subst IsCombine (sym c.in-Combine.is) tt))),
      λ h. refl,
    )
