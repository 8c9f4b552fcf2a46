-- A drawing is refused as the signature's check refuses
use Rattle.std.proofs.Common.{◌≡◌, Option, Some, None, MatchOption, Result, Err, IsOk, IsErrOf, IsOkUnless, sym, subst}
use Rattle.std.proofs.lemmas.Bool.{false≢true}
use Rattle.coll_kinds.specs.declared.refusal.Refusal.{Refusal}
use Rattle.coll_kinds.specs.declared.refusal.Refusal.TheVariants.{BadSignature, NoMemory}
use Rattle.coll_kinds.specs.declared.refusal.SignatureFault.{SignatureFault}
use Rattle.coll_draw.specs.Drawings.{Drawn}

-- a refused signature in the same words
pub refused : (o : Option SignatureFault) (why : Refusal)
    → MatchOption o (IsOk {T = Unit {0}} {E = Refusal} (Err why)) (λ cause. IsErrOf {T = Unit {0}} {E = Refusal} (Err why) (BadSignature cause))
    → MatchOption o (IsOkUnless {T = Drawn} {E = Refusal} (Err why) NoMemory) (λ cause. IsErrOf {T = Drawn} {E = Refusal} (Err why) (BadSignature cause))
refused None why h = absurd (false≢true h)
refused (Some cause) why h =
    let e : ◌≡◌ {A = Result (Unit {0}) Refusal} (Err why) (Err (BadSignature cause)) = h in
    let same : why ≡ BadSignature cause = cc in
    λ k. Err (same k)

-- an accepted one for memory alone
pub accepted : (o : Option SignatureFault) (made : Result Drawn Refusal) → o ≡ None → IsOkUnless made NoMemory
    → MatchOption o (IsOkUnless made NoMemory) (λ cause. IsErrOf made (BadSignature cause))
accepted o made e h = subst (λ x. MatchOption x (IsOkUnless made NoMemory) (λ cause. IsErrOf made (BadSignature cause))) (sym e) h
