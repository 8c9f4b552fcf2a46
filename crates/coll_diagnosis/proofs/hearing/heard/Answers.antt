use Rattle.std.proofs.Common.{◌≡◌, Bool, List, Vec, Global, add-one, ap, subst, ◌∙◌, arith}
use Rattle.std.specs.Prelude.{slice_get}
use Rattle.coll_plans.specs.Plans.{Planned}
use Rattle.coll_diagnosis.specs.Hearings.{AreRowsAfter, rounds_in}
use Rattle.coll_diagnosis.proofs.HearingRounds.{after_is, hearing_is}
use Rattle.coll_diagnosis.proofs.hearing.heard.Goals as goal

pub loop-round-init : goal.loop-round-init
loop-round-init c = record { plans = c.in_ok-plans.ensures; rows = c.in_ok-rows.ensures }

pub loop-round-preserved : goal.loop-round-preserved
loop-round-preserved c =
    let j = c.loop-round.round in
    let rows = c.in_ok-rows-2.rows.items in
    let after : AreRowsAfter c.in_ok-plans.plans.items j c.loop-round.rows.items rows =
    subst (λ (plans : List Planned). AreRowsAfter plans j c.loop-round.rows.items rows) c.deref-in-loop-round.ensures.value
    (subst (λ (before : List (Vec Bool Global)). AreRowsAfter c.deref-in-loop-round.result.now j before rows)
    c.deref-in-loop-round-2.ensures.value c.in_ok-rows-2.ensures) in
    record {
      plans = c.loop-round.invariant.plans;
      rows = rw add-one (after_is c.args.sig c.args.n c.in_ok-plans.plans.items c.loop-round.invariant.plans j
          c.loop-round.rows.items rows c.loop-round.invariant.rows after);
    }

pub returns : goal.returns
returns c =
    let end : c.loop-round.round ≡ c.round_count-round-end.result = omega arith in
    let last = end ∙ (c.round_count-round-end.ensures ∙ ap (λ (plans : List Planned). rounds_in (slice_get plans 0)) c.deref.ensures.value) in
    hearing_is c.args.sig c.args.n c.in_ok-plans.plans.items c.in_ok-plans.ensures c.loop-round.round c.loop-round.rows.items last c.loop-round.invariant.rows
