use Rattle.std.proofs.Common.{◌≡◌, ℕ, ◌+◌, Option, Some, None, Result, Ok, Err, refl, sym, ap, subst, length-append}
use Rattle.std.specs.Prelude.{IsErrOf, IsOkUnless, MatchOption}
use Rattle.coll_kinds.specs.declared.refusal.Refusal.{Refusal}
use Rattle.coll_kinds.specs.declared.refusal.Refusal.TheVariants.{BadSignature, NoMemory}
use Rattle.coll_kinds.specs.declared.refusal.SignatureFault.{SignatureFault}
use Rattle.coll_kinds.specs.Checks.{broken}
use Rattle.coll_diagnosis.proofs.HearingRounds.{each_more}
use Rattle.coll_diagnosis.proofs.hearing.plans.Goals as goal

-- what is planned breaks no rule
unbroken : {T : Type 0} (fault : Option SignatureFault) (planned : T)
    → MatchOption fault (IsOkUnless {T = T} {E = Refusal} (Ok planned) NoMemory) (λ cause. IsErrOf {T = T} {E = Refusal} (Ok planned) (BadSignature cause))
    → fault ≡ None
unbroken None planned h = refl
unbroken {T} (Some cause) planned h = let e : ◌≡◌ {A = Result T Refusal} (Ok planned) (Err (BadSignature cause)) = h in absurd (cc)

pub loop-member-preserved : goal.loop-member-preserved
loop-member-preserved c =
    let plan = c.in_ok-plan.field-0 in
    let here = subst (λ (k : ℕ). plan ≡ record { sig = c.args.sig; n = c.args.n; member = k }) (sym c.loop-member.invariant.size) c.in_ok-plan.ensures.plan in
    record {
      size = rw (c.in_ok-push.ensures.items, length-append) (ap (λ (k : ℕ). k + 1) c.loop-member.invariant.size);
      each = λ r. rw c.in_ok-push.ensures.items
          (each_more (λ r p. p ≡ record { sig = c.args.sig; n = c.args.n; member = r }) c.loop-member.plans.items plan c.loop-member.invariant.each here r);
      planned = λ _. c.in_ok-plan.ensures.family (unbroken (broken c.args.sig c.args.n) plan c.in_ok-plan.ensures.refusal);
    }
