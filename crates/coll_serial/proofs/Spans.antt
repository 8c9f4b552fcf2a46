-- Bytes that are written at the front of a span of memory.
use Rattle.std.proofs.Common.{◌≡◌, ℕ, zero, suc, ◌+◌, ◌-◌, ◌<◌, ◌≤◌, Bool, true, false, List, [], ◌∷◌, ◌++◌, length, take, drop, nat_lt, refl, sym}
use Rattle.std.proofs.Common.{ap, subst, ◌∙◌, arith, ltb-true, ltb-false, append_assoc}
use Rattle.std.specs.Prelude.{if◌then◌else◌}
use Rattle.std.proofs.lemmas.List.{take-append-drop}
use Rattle.coll_serial.specs.declared.part.Part.{Part}
use Rattle.coll_serial.specs.Lists.{written}
use Rattle.coll_serial.specs.Parts.{span_len}

-- of two numbers the lesser is no more than either
pub span_low : (p : Part) (len : ℕ) → span_len p len ≤ len - p.at
span_low p len = go (nat_lt p.room (len - p.at)) refl
  where
    go : (b : Bool) → nat_lt p.room (len - p.at) ≡ b → span_len p len ≤ len - p.at
    go true e =
        let h : p.room < len - p.at = ltb-true p.room (len - p.at) e in
        subst (λ b. (if b then p.room else len - p.at) ≤ len - p.at) (sym e) (omega (arith, h))
    go false e = subst (λ b. (if b then p.room else len - p.at) ≤ len - p.at) (sym e) (omega arith)

cut : (ys : List ℕ) (k n : ℕ) → k ≤ n → drop k (take n ys) ++ drop n ys ≡ drop k ys
cut ys zero n le = take-append-drop n ys
cut [] (suc k) zero le = absurd (omega arith)
cut [] (suc k) (suc n) le = refl
cut (y ∷ ys) (suc k) zero le = absurd (omega arith)
cut (y ∷ ys) (suc k) (suc n) le = cut ys k n (omega arith)

drop-nil : (k : ℕ) → drop {A = ℕ} k [] ≡ []
drop-nil zero = refl
drop-nil (suc k) = refl

drop-more : (xs : List ℕ) (b n : ℕ) → drop n (drop b xs) ≡ drop (b + n) xs
drop-more xs zero n = let e : n ≡ 0 + n = omega arith in ap (λ k. drop k xs) e
drop-more [] (suc b) n = drop-nil n ∙ sym (drop-nil (suc b + n))
drop-more (x ∷ xs) (suc b) n = let e : suc (b + n) ≡ suc b + n = omega arith in drop-more xs b n ∙ ap (λ k. drop k (x ∷ xs)) e

-- bytes in place of the front of a span
replaced : (old bytes : List ℕ) (b n : ℕ) → length bytes ≤ n
    → take b old ++ ((bytes ++ drop (length bytes) (take n (drop b old))) ++ drop n (drop b old)) ≡ written b bytes old
replaced old bytes b n le =
    ap (λ ys. take b old ++ ys)
    (append_assoc bytes (drop (length bytes) (take n (drop b old))) (drop n (drop b old))
    ∙ ap (λ ys. bytes ++ ys) (cut (drop b old) (length bytes) n le ∙ drop-more old b (length bytes)))

-- where nothing is written, the memory stays
nothing : (old : List ℕ) (at : ℕ) → written at [] old ≡ old
nothing old at = let e : at + 0 ≡ at = omega arith in ap (λ k. take at old ++ drop k old) e ∙ take-append-drop at old

-- the same in the words of a part
pub spliced : (p : Part) (old bytes sub : List ℕ) (b e : ℕ)
    → b ≡ length old - (length old - p.at) → e ≡ b + span_len p (length old) → length bytes ≤ span_len p (length old)
    → sub ≡ bytes ++ drop (length bytes) (take (e - b) (drop b old))
    → take b old ++ (sub ++ drop (e - b) (drop b old)) ≡ written p.at bytes old
spliced p old bytes sub b e b_is e_is fits sub_is =
    let size : e - b ≡ span_len p (length old) = omega (arith, e_is) in
    (λ z. take b old ++ (at_size z ++ drop (size z) (drop b old)))
    ∙ (replaced old bytes b (span_len p (length old)) fits ∙ go (nat_lt (length old) p.at) refl)
  where
    at_size : sub ≡ bytes ++ drop (length bytes) (take (span_len p (length old)) (drop b old))
    at_size =
        let size : e - b ≡ span_len p (length old) = omega (arith, e_is) in
        sub_is ∙ ap (λ k. bytes ++ drop (length bytes) (take k (drop b old))) size

    empty : (xs : List ℕ) → length xs ≡ 0 → written b xs old ≡ written p.at xs old
    empty [] e = nothing old b ∙ sym (nothing old p.at)
    empty (x ∷ xs) e = absurd (omega (arith, e))

    go : (c : Bool) → nat_lt (length old) p.at ≡ c → written b bytes old ≡ written p.at bytes old
    go false h =
        let le : p.at ≤ length old = ltb-false (length old) p.at h in
        let same : b ≡ p.at = omega (arith, le, b_is) in
        ap (λ k. written k bytes old) same
    go true h =
        let lt : length old < p.at = ltb-true (length old) p.at h in
        let low = span_low p (length old) in
        let none : length bytes ≡ 0 = omega (arith, lt, low, fits) in
        empty bytes none
