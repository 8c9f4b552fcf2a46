use Rattle.std.proofs.Common.{◌≡◌, ◌<◌, inl, inr, true, Vec, Global, length, get_or, sym, ap, subst, ◌∙◌, arith}
use Rattle.std.specs.List.{list_all}
use Rattle.coll_verdict.specs.declared.stood.Stood.{Stood}
use Rattle.coll_verdict.specs.Checking.{is_at_end}
use Rattle.coll_verdict.specs.Code.{AreStood}
use Rattle.coll_cases.specs.Code.{HavePassed, IsRefuted}
use Rattle.coll_cases.specs.Outcomes.{fixed}
use Rattle.coll_cases.proofs.Showing.{refuted_more, shown_at_ends, shown_by_split}
use Rattle.coll_cases.proofs.cases.+is_shown.Goals as goal
use Rattle.coll_cases.proofs.cases.+is_shown.Goals.{else-not-stays_at-via-then-not-stays_at+in_ok-is_shown+else-not-branch-4}
use Rattle.coll_cases.proofs.cases.+is_shown.Goals.{else-not-stays_at-via-else-not-stays_at}

pub returns-then-are_at_ends : goal.returns-then-are_at_ends
returns-then-are_at_ends t c = λ yes h stood same apart.
    let kept : c.in_ok-pass_all.field-0 ≡ true = grind arith in
    let ends : c.are_at_ends.result ≡ true = grind arith in
    shown_at_ends c.args.setup.now.library.now h c.pass_all.new.ranks.items (c.in_ok-pass_all.ensures kept h stood same apart)
    (ap (list_all is_at_end) (sym c.as_slice.ensures.value) ∙ (sym c.are_at_ends.ensures ∙ ends))

pub loop-outcome-preserved : goal.loop-outcome-preserved
loop-outcome-preserved t c = λ h stood same apart.
    let kept : c.in_ok-pass_all.field-0 ≡ true = grind arith in
    let put : c.in_ok-put_outcome.field-0 ≡ true = grind arith in
    let pushed : c.in_ok-push_all.field-0 ≡ true = grind arith in
    let back : c.in_ok-put_back.field-0 ≡ true = grind arith in
    let library = c.args.setup.now.library.now in
    let found = c.in-Some.found in
    let outcome = c.deref.result.now in
    let case = fixed h found.rank found.place outcome in
    let passed = c.in_ok-pass_all.ensures kept h stood same apart in
    let is = (rw c.in-Some.is at c.in_ok-found.ensures) h (subst (AreStood h) (sym c.as_slice-2.ensures.value) passed.stood) in
    let before = c.loop-outcome.invariant h stood same apart in
    let there = c.in_ok-push_all.ensures pushed case (c.in_ok-put_outcome.ensures put h is.call before.0) in
    let after : AreStood case c.else-not-stays_at.ranks.items × IsRefuted library h found outcome =
    elim c.else-not-stays_at.branch [
      | else-not-stays_at-via-then-not-stays_at+in_ok-is_shown+else-not-branch-4 w ↦ (
          let yes : w.in_ok-is_shown.field-0 ≡ true = grind arith in
          let shown = w.in_ok-is_shown.ensures yes case there same apart in
          (subst (λ (ranks : Vec Stood Global). AreStood case ranks.items) (sym w.ranks-is) shown.stood, inl shown.never))
      | else-not-stays_at-via-else-not-stays_at w ↦ (
          let yes : c.stays_at.result ≡ true = grind arith in
          let stays = c.stays_at.ensures yes case (subst (AreStood case) (sym c.as_slice-in-loop-outcome.ensures.value) there) same in
          (subst (λ (ranks : Vec Stood Global). AreStood case ranks.items) (sym w.ranks-is) there, inr stays))
    ] in
    let low : c.loop-outcome.outcome-index < length found.outcomes.items =
    omega (arith, c.loop-outcome-test.true, ap length c.deref-outcome-items.ensures.value) in
    let item : c.outcome-item.result ≡ get_or found.outcomes.items c.loop-outcome.outcome-index c.outcome-item.result =
    let lists = c.deref-outcome-items.ensures.value in let at = c.outcome-item.is in cc in (
      c.in_ok-put_back.ensures back h outcome is.call after.0,
      refuted_more library h found c.loop-outcome.outcome-index c.outcome-item.result low item before.1
          (subst (IsRefuted library h found) c.deref.ensures.value after.1),
    )

pub returns : goal.returns
returns t c = λ yes h stood same apart.
    let kept : c.in_ok-pass_all.field-0 ≡ true = grind arith in
    let library = c.args.setup.now.library.now in
    let found = c.in-Some.found in
    let passed = c.in_ok-pass_all.ensures kept h stood same apart in
    let is = (rw c.in-Some.is at c.in_ok-found.ensures) h (subst (AreStood h) (sym c.as_slice-2.ensures.value) passed.stood) in
    let after = c.loop-outcome.invariant h stood same apart in
    shown_by_split library h c.as_slice-2.result.now c.loop-outcome.ranks.items found is
    (subst (HavePassed library h) (sym c.as_slice-2.ensures.value) passed) after.0
    (λ i low. after.1 i (omega (arith, low, c.loop-outcome-test.false, ap length c.deref-outcome-items.ensures.value)))
