-- The words that name requests, one after another.
use Rattle.std.proofs.Common.{◌≡◌, ℕ, ◌+◌, ◌<◌, ◌≤◌, false, true, ◌||◌, eqb, List, [], ◌∷◌, ◌++◌, length, get_or, set, drop, Result, Ok, Err, Bor}
use Rattle.std.proofs.Common.{refl, ap, sym, ◌∙◌, arith, inl, inr, add-one}
use Rattle.std.proofs.Math.Seq.{drop-cons}
use Rattle.std.proofs.Math.Bool.{or-false}
use Rattle.std.proofs.lemmas.Bool.{cases_eq, eq-eqb, ne_eqb, or_right}
use Rattle.std.proofs.lemmas.List.{get_or-set_same, get_or-set_other, get_or-map, length-map}
use Rattle.std.proofs.lemmas.List.Folds.{list_any-append}
use Rattle.coll_kinds.specs.Groups.{is_among}
use Rattle.coll_parser.specs.declared.cause.Cause.{Cause}
use Rattle.coll_parser.specs.Code.{texts}
use Rattle.coll_parser.specs.Reading.{and_then, numbers_from, numbers}

pub drop-texts : (words : List (Bor (List ℕ))) (i : ℕ) (d : Bor (List ℕ)) → i < length words
    → drop i (texts words) ≡ (get_or words i d).now ∷ drop (i + 1) (texts words)
drop-texts words i d lt =
    let within : i < length (texts words) = rw length-map lt in
    rw (add-one, drop-cons (texts words) i d.now within, get_or-map (λ word. word.now) words i d d.now lt) refl

-- ---- marks: of each request, whether it is named on this line

abbrev pub AreMarks : ℕ → List ℕ → List ℕ → Type 0
AreMarks line stamps named = (q : ℕ) → q < length stamps → eqb (get_or stamps q 0) line ≡ is_among q named

pub is_among-push : (k number : ℕ) (numbers : List ℕ) → is_among k (numbers ++ number ∷ []) ≡ (is_among k numbers || eqb number k)
is_among-push k number numbers = list_any-append _ numbers (number ∷ []) ∙ ap (λ b. is_among k numbers || b) (or-false (eqb number k))

pub marks-none : (line : ℕ) (stamps : List ℕ) → ((q : ℕ) → q < length stamps → get_or stamps q 0 < line) → AreMarks line stamps []
marks-none line stamps earlier q lt = ne_eqb (get_or stamps q 0) line (λ e. omega (arith, e, earlier q lt))

pub marks-push : (line : ℕ) (stamps named : List ℕ) (number : ℕ) → number < length stamps → AreMarks line stamps named → (q : ℕ)
    → q < length stamps → eqb (get_or (set stamps number line) q 0) line ≡ is_among q (named ++ number ∷ [])
marks-push line stamps named number within are q lt =
    elim (cases_eq number q) [
      | inl e ↦
          let here : get_or (set stamps number line) q 0 ≡ line = rw (← e) (get_or-set_same stamps number line 0 within) in
          let there : is_among q (named ++ number ∷ []) ≡ true =
          is_among-push q number named ∙ or_right (is_among q named) (eqb number q) (eq-eqb number q e) in
          eq-eqb _ _ here ∙ sym there
      | inr ne ↦
          let same : get_or (set stamps number line) q 0 ≡ get_or stamps q 0 = get_or-set_other stamps number q line 0 (λ e. ne (sym e)) in
          let there : is_among q (named ++ number ∷ []) ≡ is_among q named =
          is_among-push q number named ∙ ap (λ b. is_among q named || b) (ne_eqb number q ne) ∙ or-false (is_among q named) in
          ap (λ n. eqb n line) same ∙ are q lt ∙ sym there
    ]

pub below-push : (line : ℕ) (stamps : List ℕ) (number : ℕ) → number < length stamps
    → ((q : ℕ) → q < length stamps → get_or stamps q 0 ≤ line) → (q : ℕ) → q < length stamps → get_or (set stamps number line) q 0 ≤ line
below-push line stamps number within below q lt =
    elim (cases_eq number q) [
      | inl e ↦ let here : get_or (set stamps number line) q 0 ≡ line = rw (← e) (get_or-set_same stamps number line 0 within) in omega arith
      | inr ne ↦ let same : get_or (set stamps number line) q 0 ≡ get_or stamps q 0 =
          get_or-set_other stamps number q line 0 (λ e. ne (sym e)) in omega (arith, below q lt)
    ]

-- ---- one word more

module _ (read : List ℕ → Result ℕ Cause) (twice : Cause) (before : List ℕ) (words : List (Bor (List ℕ))) (i : ℕ)
    (d : Bor (List ℕ)) (total : Result (List ℕ) Cause) (lt : i < length words) (so_far : numbers_from read twice before (drop i (texts words)) ≡ total) where
  pub numbers-more : (q : ℕ) → read (get_or words i d).now ≡ Ok q → is_among q before ≡ false
      → numbers_from read twice (before ++ q ∷ []) (drop (i + 1) (texts words)) ≡ total
  numbers-more q is free =
      let step : numbers_from read twice before ((get_or words i d).now ∷ drop (i + 1) (texts words))
      ≡ numbers_from read twice (before ++ q ∷ []) (drop (i + 1) (texts words)) = rw (is, free) refl in
      sym step ∙ ap (numbers_from read twice before) (sym (drop-texts words i d lt)) ∙ so_far

  pub numbers-stops : (cause : Cause) → read (get_or words i d).now ≡ Err cause → total ≡ Err cause
  numbers-stops cause none =
      let step : numbers_from read twice before ((get_or words i d).now ∷ drop (i + 1) (texts words)) ≡ Err cause = rw none refl in
      sym so_far ∙ ap (numbers_from read twice before) (drop-texts words i d lt) ∙ step

  pub numbers-twice : (q : ℕ) → read (get_or words i d).now ≡ Ok q → is_among q before ≡ true → total ≡ Err twice
  numbers-twice q is named =
      let step : numbers_from read twice before ((get_or words i d).now ∷ drop (i + 1) (texts words)) ≡ Err twice = rw (is, named) refl in
      sym so_far ∙ ap (numbers_from read twice before) (drop-texts words i d lt) ∙ step

-- at least one word
pub numbers-some : (read : List ℕ → Result ℕ Cause) (twice : Cause) (words : List (List ℕ)) (total : Result (List ℕ) Cause)
    → eqb (length words) 0 ≡ false → numbers_from read twice [] words ≡ total → numbers read twice words ≡ and_then total (λ ns. Ok (ns, []))
numbers-some read twice [] total some e = absurd cc
numbers-some read twice (w ∷ words) total some e = ap (λ (r : Result (List ℕ) Cause). and_then r (λ ns. Ok (ns, []))) e
