use Rattle.coll_core.proofs.step.Step.{acts_first, by_inside, by_not_quiet, combines_first, first_of, not_combine, not_empty, steps_on}
use Rattle.std.proofs.Common.{subst, sym}
use Rattle.coll_sched.specs.Actions.{IsCombine}
use Rattle.coll_core.proofs.engine.Core.step.Goals as goal

pub next_of-requires : goal.next_of-requires
next_of-requires c = first_of _ c.args.self.now c.in-Some.ticket c.self.view_is (c.first.ensures.found c.in-Some.ticket c.in-Some.is)

pub returns-in_ok-act-in_default-next_of : goal.returns-in_ok-act-in_default-next_of
returns-in_ok-act-in_default-next_of c =
    let is_first = first_of _ c.args.self.now c.in-Some.ticket c.self.view_is (c.first.ensures.found c.in-Some.ticket c.in-Some.is) in
    record {
      quiet = (
        (λ q. absurd (by_not_quiet c.in_ok-act-in_default-next_of.field-0 c.by.result c.by.ensures q)),
        λ e. absurd (not_empty c.args.self.now c.in-Some.ticket is_first e),
      );
      out = (
        (λ w. absurd (by_inside c.in_ok-act-in_default-next_of.field-0 c.by.result c.by.ensures w)),
        λ h. absurd (acts_first c.args.self.now c.in-Some.ticket c.next_of.result is_first c.next_of.ensures
            (not_combine c.next_of.result c.in_default-next_of.not-Combine) h),
      );
      steps = steps_on c.args.self.now c.act.new.self c.in_ok-act-in_default-next_of.field-0 c.by.result c.by.ensures
          c.in_ok-act-in_default-next_of.ensures.acts;
      err = tt;
      refusal = tt;
    }

pub returns-in_ok-hand_out-in-Combine-clause-out : goal.returns-in_ok-hand_out-in-Combine-clause-out
returns-in_ok-hand_out-in-Combine-clause-out c =
    let is_first = first_of _ c.args.self.now c.in-Some.ticket c.self.view_is (c.first.ensures.found c.in-Some.ticket c.in-Some.is) in (
      (λ w. combines_first c.args.self.now c.in-Some.ticket c.next_of.result is_first c.next_of.ensures (subst IsCombine (sym c.in-Combine.is) tt)),
      λ h. tt,
    )
