use Rattle.std.proofs.Common.{◌∙◌, refl, sym}
use Rattle.std.proofs.lemmas.Bool.{false≢true}
use Rattle.coll_core.proofs.step.Step.{first_of, long_first, none_short, short_first}
use Rattle.coll_core.proofs.engine.Core.hand_out_short.Goals as goal

pub returns-in_default-clause-short : goal.returns-in_default-clause-short
returns-in_default-clause-short c = (
  (λ yes. absurd (false≢true yes)),
  λ h. absurd (none_short _ c.args.self.now c.self.view_is c.in_default.ensures.none h),
)

pub next_of-action-requires : goal.next_of-action-requires
next_of-action-requires c = first_of _ c.args.self.now c.in-Some.ticket c.self.view_is (c.first.ensures.found c.in-Some.ticket c.in-Some.is)

pub returns-then-not-is_short-clause-short : goal.returns-then-not-is_short-clause-short
returns-then-not-is_short-clause-short c =
    let is_first = first_of _ c.args.self.now c.in-Some.ticket c.self.view_is (c.first.ensures.found c.in-Some.ticket c.in-Some.is) in (
      (λ yes. absurd (false≢true yes)),
      λ h. absurd (long_first c.args.self.now c.in-Some.ticket c.next_of-action.result is_first c.next_of-action.ensures
          (λ s. false≢true (sym c.if-not-is_short.true ∙ c.is_short.ensures.1 s)) h),
    )

pub returns-clause-short : goal.returns-clause-short
returns-clause-short c =
    let is_first = first_of _ c.args.self.now c.in-Some.ticket c.self.view_is (c.first.ensures.found c.in-Some.ticket c.in-Some.is) in (
      (λ yes. short_first c.args.self.now c.in-Some.ticket c.next_of-action.result is_first c.next_of-action.ensures
          (c.is_short.ensures.0 c.if-not-is_short.false)),
      λ h. refl,
    )
