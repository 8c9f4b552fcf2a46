-- What a checked signature gives and gets.
use Rattle.std.proofs.Common.{◌≡◌, ℕ, zero, suc, ◌<◌, ◌≤◌, Bool, true, false, cond, leb, Option, Some, None, refl, arith, inl, inr}
use Rattle.std.proofs.lemmas.Bool.{and_parts, cases_lt, leb-true}
use Rattle.coll_kinds.specs.declared.signature.Signature.{Signature}
use Rattle.coll_kinds.specs.declared.refusal.SignatureFault.{SignatureFault}
use Rattle.coll_kinds.specs.Common.{max_len, given_len, got_len, broken, root_fits, sizes_fit}
use Rattle.coll_kinds.specs.Checks.{AreLengthsSmall, count_fits, operation_fits, size_fits}

-- nothing is refused only where each test is passed
passed : (test : Bool) (rest : Option SignatureFault) (fault : SignatureFault) → cond test rest (Some fault) ≡ None → (test ≡ true) × (rest ≡ None)
passed true rest fault e = (refl, e)
passed false rest fault e = absurd cc

sizes_fit-broken : (sig : Signature) (n : ℕ) → broken sig n ≡ None → sizes_fit sig n n ≡ true
sizes_fit-broken sig n e =
    let root = passed (root_fits sig n) _ _ e in
    let operation = passed (operation_fits sig) _ _ root.1 in
    let count = passed (count_fits sig n) _ _ operation.1 in
    (passed (sizes_fit sig n n) _ _ count.1).0

size_fits-below : (sig : Signature) (n k r : ℕ) → sizes_fit sig n k ≡ true → r < k → size_fits sig n r ≡ true
size_fits-below sig n zero r e lt = absurd (omega (arith, lt))
size_fits-below sig n (suc k) r e lt =
    let parts = and_parts (sizes_fit sig n k) (size_fits sig n k) e in
    elim (cases_lt r k) [
      | inl before ↦ size_fits-below sig n k r parts.0 before
      | inr last ↦ let same : r ≡ k = omega (arith, last, lt) in rw same parts.1
    ]

pub lengths_are_small : AreLengthsSmall
lengths_are_small sig n r e lt =
    let fits = and_parts (leb (given_len sig n r) max_len) (leb (got_len sig n r) max_len) (size_fits-below sig n n r (sizes_fit-broken sig n e) lt) in
    let given : given_len sig n r ≤ max_len = leb-true _ _ fits.0 in
    let got : got_len sig n r ≤ max_len = leb-true _ _ fits.1 in
    (given, got, omega (arith, given, got))
