-- Lawful layouts: how many nodes there are, the list that a node stands on, and what a move keeps of both.
use Rattle.std.proofs.Common.{◌≡◌, ◌≢◌, ℕ, zero, suc, ◌+◌, ◌<◌, ◌≤◌, cond, List, [], ◌∷◌, ◌++◌, length, eqb, ltb, sym, refl, ap, subst, ◌∙◌, inl, inr}
use Rattle.std.proofs.Common.{eq-eqb, ne_eqb, lt-ltb, le-ltb, set, arith, zero-add, add-zero, add-one, suc-ne-zero}
use Rattle.std.proofs.lemmas.Bool.{cases_eq, cases_lt}
use Rattle.std.proofs.lemmas.List.{length-map}
use Rattle.std.specs.List.{concat}
use Rattle.coll_lists.specs.Layouts.{IsLawful, Layout, list_of, sequence, size, times}
use Rattle.coll_lists.specs.Moves.{taken_out, without, moved_back, moved_front}
use Rattle.coll_lists.proofs.Occurrences.{times-append, times-taken_out, times-taken_out-other, times-same, times-other}

-- a node that stands on no list
pub times-concat_none : (x : ℕ) (L : Layout) → ((l : ℕ) → l < length L → times x (sequence L l) ≡ 0) → times x (concat L) ≡ 0
times-concat_none x [] none = refl
times-concat_none x (s ∷ rest) none =
    times-append x s (concat rest)
    ∙ ap (λ z. z + times x (concat rest)) (none 0 (omega arith)) ∙ zero-add _
    ∙ times-concat_none x rest (λ l low. none (suc l) (omega arith))

-- a node that stands once, on one list
pub times-concat_once : (x : ℕ) (L : Layout) (h : ℕ) → h < length L → times x (sequence L h) ≡ 1
    → ((l : ℕ) → l < length L → l ≢ h → times x (sequence L l) ≡ 0) → times x (concat L) ≡ 1
times-concat_once x [] h low here none = absurd (omega (arith, low))
times-concat_once x (s ∷ rest) zero low here none =
    times-append x s (concat rest)
    ∙ ap (λ z. z + times x (concat rest)) here
    ∙ ap (λ z. 1 + z) (times-concat_none x rest (λ l l_low. none (suc l) (omega arith) (λ e. absurd (omega (arith, e)))))
times-concat_once x (s ∷ rest) (suc h) low here none =
    times-append x s (concat rest)
    ∙ ap (λ z. z + times x (concat rest)) (none 0 (omega arith) (λ e. absurd (omega (arith, e)))) ∙ zero-add _
    ∙ times-concat_once x rest h (omega arith) here (λ l l_low ne. none (suc l) (omega arith) (λ e. ne (omega (arith, e))))

-- the first list with a node
pub list_of-first : (x : ℕ) (L : Layout) (h : ℕ) → h < length L → 0 < times x (sequence L h) → ((l : ℕ) → l < h → times x (sequence L l) ≡ 0) → list_of L x ≡ h
list_of-first x [] h low some none = absurd (omega (arith, low))
list_of-first x (s ∷ rest) zero low some none = ap (λ t. cond t 0 (suc (list_of rest x))) (lt-ltb 0 (times x s) some)
list_of-first x (s ∷ rest) (suc h) low some none =
    ap (λ n. cond (ltb 0 n) 0 (suc (list_of rest x))) (none 0 (omega arith))
    ∙ ap suc (list_of-first x rest h (omega arith) some (λ l l_low. none (suc l) (omega arith)))

-- a node that stands somewhere stands on its list
pub list_of-stands : (x : ℕ) (L : Layout) → 0 < times x (concat L) → (list_of L x < length L) × (0 < times x (sequence L (list_of L x)))
list_of-stands x [] some = absurd (omega (arith, some))
list_of-stands x (s ∷ rest) some =
    let parts : times x (s ++ concat rest) ≡ times x s + times x (concat rest) = times-append x s (concat rest) in
    elim (cases_lt 0 (times x s)) [
      | inl here ↦ rw (lt-ltb 0 (times x s) here) (omega arith, here)
      | inr none ↦
          let next : (list_of rest x < length rest) × (0 < times x (sequence rest (list_of rest x))) = list_of-stands x rest (omega arith) in
          rw (le-ltb 0 (times x s) none) (omega arith, next.1)
    ]

-- f added up over the numbers below n
abbrev pub total : (ℕ → ℕ) → ℕ → ℕ
total f zero = 0
total f (suc n) = total f n + f n

pub total-add : (f g : ℕ → ℕ) (n : ℕ) → total (λ i. f i + g i) n ≡ total f n + total g n
total-add f g zero = refl
total-add f g (suc n) =
    let before : total (λ i. f i + g i) n ≡ total f n + total g n = total-add f g n in
    omega arith

pub total-same : (f g : ℕ → ℕ) (n : ℕ) → ((i : ℕ) → i < n → f i ≡ g i) → total f n ≡ total g n
total-same f g zero same = refl
total-same f g (suc n) same =
    let before : total f n ≡ total g n = total-same f g n (λ i low. same i (omega arith)) in
    let last : f n ≡ g n = same n (omega arith) in
    omega arith

pub total-zero : (n : ℕ) → total (λ _. 0) n ≡ 0
total-zero zero = refl
total-zero (suc n) = ap (λ z. z + 0) (total-zero n)

pub total-one : (n : ℕ) → total (λ _. 1) n ≡ n
total-one zero = refl
total-one (suc n) = ap (λ z. z + 1) (total-one n) ∙ add-one n

-- one number is counted once
pub total-eqb : (y n : ℕ) → y < n → total (λ i. cond (eqb y i) 1 0) n ≡ 1
total-eqb y zero low = absurd (omega (arith, low))
total-eqb y (suc n) low =
    elim (cases_eq y n) [
      | inl e ↦
          let before : total (λ i. cond (eqb y i) 1 0) n ≡ total (λ _. 0) n =
          total-same _ _ n (λ i i_low. ap (λ t. cond t 1 0) (ne_eqb y i (λ f. absurd (omega (arith, f))))) in
          let none : total (λ _. 0) n ≡ 0 = total-zero n in
          ap (λ t. total (λ i. cond (eqb y i) 1 0) n + cond t 1 0) (eq-eqb y n e) ∙ omega (arith, before, none)
      | inr ne ↦
          let before : total (λ i. cond (eqb y i) 1 0) n ≡ 1 = total-eqb y n (omega arith) in
          ap (λ t. total (λ i. cond (eqb y i) 1 0) n + cond t 1 0) (ne_eqb y n ne) ∙ omega (arith, before)
    ]

-- a sequence of numbers below n is as long as they occur
pub length-total : (s : List ℕ) (n : ℕ) → ((x : ℕ) → n ≤ x → times x s ≡ 0) → total (λ x. times x s) n ≡ length s
length-total [] n none = total-zero n
length-total (y ∷ rest) n none =
    elim (cases_lt y n) [
      | inl low ↦
          let split : total (λ x. cond (eqb y x) 1 0 + times x rest) n ≡ total (λ x. cond (eqb y x) 1 0) n + total (λ x. times x rest) n =
          total-add (λ x. cond (eqb y x) 1 0) (λ x. times x rest) n in
          let one : total (λ x. cond (eqb y x) 1 0) n ≡ 1 = total-eqb y n low in
          let more : total (λ x. times x rest) n ≡ length rest =
          length-total rest n (λ x high. sym (times-other x y rest (λ e. absurd (omega (arith, e)))) ∙ none x high) in
          omega arith
      | inr high ↦ absurd (suc-ne-zero (times y rest) (sym (times-same y y rest refl) ∙ none y high))
    ]

-- a lawful layout has each node once, so as many as there are nodes
pub size-lawful : (n : ℕ) (L : Layout) → IsLawful n L → size L ≡ n
size-lawful n L lawful =
    sym (length-total (concat L) n (λ x high. lawful x ∙ ap (λ t. cond t 1 0) (le-ltb x n high)))
    ∙ total-same (λ x. times x (concat L)) (λ _. 1) n (λ x low. lawful x ∙ ap (λ t. cond t 1 0) (lt-ltb x n low))
    ∙ total-one n

-- occurrences after a move
pub times-concat_without : (x z : ℕ) (L : Layout) → z ≢ x → times z (concat (without x L)) ≡ times z (concat L)
times-concat_without x z [] ne = refl
times-concat_without x z (s ∷ rest) ne =
    times-append z (taken_out x s) (concat (without x rest))
    ∙ ap (λ k. k + times z (concat (without x rest))) (times-taken_out-other x z s ne)
    ∙ ap (λ k. times z s + k) (times-concat_without x z rest ne)
    ∙ sym (times-append z s (concat rest))

pub times-concat_without-same : (x : ℕ) (L : Layout) → times x (concat (without x L)) ≡ 0
times-concat_without-same x [] = refl
times-concat_without-same x (s ∷ rest) =
    times-append x (taken_out x s) (concat (without x rest))
    ∙ ap (λ k. k + times x (concat (without x rest))) (times-taken_out x s) ∙ zero-add _
    ∙ times-concat_without-same x rest

-- one list written anew
pub times-concat_set : (z : ℕ) (L : Layout) (l : ℕ) (t : List ℕ) → l < length L
    → times z (concat (set L l t)) + times z (sequence L l) ≡ times z (concat L) + times z t
times-concat_set z [] l t low = absurd (omega (arith, low))
times-concat_set z (s ∷ rest) zero t low =
    let new : times z (t ++ concat rest) ≡ times z t + times z (concat rest) = times-append z t (concat rest) in
    let old : times z (s ++ concat rest) ≡ times z s + times z (concat rest) = times-append z s (concat rest) in
    omega arith
times-concat_set z (s ∷ rest) (suc l) t low =
    let new : times z (s ++ concat (set rest l t)) ≡ times z s + times z (concat (set rest l t)) = times-append z s (concat (set rest l t)) in
    let old : times z (s ++ concat rest) ≡ times z s + times z (concat rest) = times-append z s (concat rest) in
    let next : times z (concat (set rest l t)) + times z (sequence rest l) ≡ times z (concat rest) + times z t = times-concat_set z rest l t (omega arith) in
    omega arith

-- one node more on a list, wherever it stands there
pub IsLawful-put : (n : ℕ) (L : Layout) → IsLawful n L → (x l : ℕ) → x < n → l < length L → (t : List ℕ) →
    (times x t ≡ suc (times x (sequence (without x L) l))) → ((z : ℕ) → z ≢ x → times z t ≡ times z (sequence (without x L) l)) →
    IsLawful n (set (without x L) l t)
IsLawful-put n L lawful x l x_low l_low t again kept z =
    let low : l < length (without x L) = subst (λ k. l < k) (sym (length-map L (taken_out x))) l_low in
    let parts : times z (concat (set (without x L) l t)) + times z (sequence (without x L) l) ≡ times z (concat (without x L)) + times z t =
    times-concat_set z (without x L) l t low in
    elim (cases_eq z x) [
      | inl e ↦
          let none : times z (concat (without x L)) ≡ 0 = ap (λ k. times k (concat (without x L))) e ∙ times-concat_without-same x L in
          let one : times z t ≡ suc (times z (sequence (without x L) l)) =
          ap (λ k. times k t) e ∙ again ∙ ap (λ k. suc (times k (sequence (without x L) l))) (sym e) in
          let once : times z (concat (set (without x L) l t)) ≡ 1 = omega arith in
          once ∙ sym (ap (λ b. cond b 1 0) (lt-ltb z n (omega (arith, e))))
      | inr ne ↦
          let same : times z (concat (without x L)) ≡ times z (concat L) = times-concat_without x z L ne in
          let stays : times z t ≡ times z (sequence (without x L) l) = kept z ne in
          let all : times z (concat (set (without x L) l t)) ≡ times z (concat L) = omega arith in
          all ∙ lawful z
    ]

pub IsLawful-moved_back : (n : ℕ) (L : Layout) → IsLawful n L → (x l : ℕ) → x < n → l < length L → IsLawful n (moved_back x l L)
IsLawful-moved_back n L lawful x l x_low l_low =
    let S : List ℕ = sequence (without x L) l in
    IsLawful-put n L lawful x l x_low l_low (sequence (without x L) l ++ x ∷ [])
    (times-append x (sequence (without x L) l) (x ∷ []) ∙ ap (λ k. times x (sequence (without x L) l) + k) (times-same x x [] refl) ∙ add-one _)
    (λ z ne. times-append z (sequence (without x L) l) (x ∷ [])
    ∙ ap (λ k. times z (sequence (without x L) l) + k) (times-other z x [] (λ e. ne (sym e))) ∙ add-zero _)

pub IsLawful-moved_front : (n : ℕ) (L : Layout) → IsLawful n L → (x l : ℕ) → x < n → l < length L → IsLawful n (moved_front x l L)
IsLawful-moved_front n L lawful x l x_low l_low =
    IsLawful-put n L lawful x l x_low l_low (x ∷ sequence (without x L) l)
    (times-same x x (sequence (without x L) l) refl)
    (λ z ne. times-other z x (sequence (without x L) l) (λ e. ne (sym e)))
