-- Why a port has no plan of a collective.
use Rattle.std.proofs.Common.{◌≡◌, ℕ, inl, inr, length, Option, Some, None, Result, Err, refl, sym, ap, subst, ◌∙◌}
use Rattle.std.specs.Prelude.{IfErr, IfNone, IfSome, IsErrOf, IsOkUnless, MatchOption}
use Rattle.coll_kinds.specs.declared.refusal.Refusal.{Refusal}
use Rattle.coll_kinds.specs.declared.refusal.Refusal.TheVariants.{BadSignature, NoMemory}
use Rattle.coll_kinds.specs.declared.refusal.SignatureFault.{SignatureFault}
use Rattle.coll_kinds.specs.declared.signature.Signature.{Signature}
use Rattle.coll_kinds.specs.Checks.{broken}
use Rattle.coll_machine.specs.Common.{unseated, group_in}
use Rattle.coll_shared.specs.Ports.{Holding, IsFault, IsUnplanned}

is_fault : {T : Type 0} (b : Option SignatureFault) (r : Result T Refusal) (why : Refusal) → r ≡ Err why
    → MatchOption b (IsOkUnless r NoMemory) (λ cause. IsErrOf r (BadSignature cause)) → IsFault b why
is_fault {T} None r why is h = subst (λ (r : Result T Refusal). IfErr r (λ w. w ≡ NoMemory)) is h
is_fault (Some cause) r why is h = cc

-- what the port has is told by the refusal
pub unplanned : {T : Type 0} (p : Holding) (comm : ℕ) (sig : Signature) (r : Result T Refusal) (why : Refusal) → r ≡ Err why
    → IfSome (unseated p.groups p.rank comm) (λ w. IsErrOf r w)
    → IfNone (unseated p.groups p.rank comm)
    (MatchOption (broken sig (length (group_in p.groups comm))) (IsOkUnless r NoMemory) (λ cause. IsErrOf r (BadSignature cause)))
    → IsUnplanned p comm sig why
unplanned {T} p comm sig r why is seat fault = go (unseated p.groups p.rank comm) refl seat fault
  where
    same : (w : Refusal) → r ≡ Err w → w ≡ why
    same w e = cc

    go : (o : Option Refusal) → unseated p.groups p.rank comm ≡ o → IfSome o (λ w. IsErrOf r w)
        → IfNone o (MatchOption (broken sig (length (group_in p.groups comm))) (IsOkUnless r NoMemory) (λ cause. IsErrOf r (BadSignature cause)))
        → IsUnplanned p comm sig why
    go (Some w) e s f = inl (e ∙ ap Some (same w s))
    go None e s f = inr (e, is_fault (broken sig (length (group_in p.groups comm))) r why is f)
