-- A table that marks the numbers of a list, of which none stands twice.
use Rattle.std.proofs.Common.{◌≡◌, ◌≢◌, ℕ, ◌+◌, ◌<◌, ◌≤◌, Bool, true, false, cond, ◌||◌, eqb, List, [], ◌∷◌, ◌++◌, length, get_or, set, replicate}
use Rattle.std.proofs.Common.{refl, ap, sym, ◌∙◌, arith, inl, inr}
use Rattle.std.specs.List.{count_by}
use Rattle.std.proofs.Math.Bool.{or-false}
use Rattle.std.proofs.Math.ListN.{get_or-eq_default}
use Rattle.std.proofs.lemmas.Bool.{cases_eq, cases_lt, eq-eqb, ne_eqb, or_right}
use Rattle.std.proofs.lemmas.List.{get_or-set_same, get_or-set_other, get_or-replicate, length-replicate, length-append}
use Rattle.std.proofs.lemmas.List.Folds.{list_any-append, sum_by-replicate}
use Rattle.std.proofs.lemmas.List.Sums.{sum_by-set, count_by-le-length}
use Rattle.coll_kinds.specs.Groups.{is_among}

pub record AreMarks (marks : List Bool) (numbers : List ℕ) : Type 0 where
  pub each : (k : ℕ) → get_or marks k false ≡ is_among k numbers
  pub count : count_by (λ b. b) marks ≡ length numbers

get_or-none : (n k : ℕ) → get_or (replicate n false) k false ≡ false
get_or-none n k =
    elim (cases_lt k n) [ inl lt ↦ get_or-replicate n k false false lt | inr le ↦ get_or-eq_default (replicate n false) false (rw length-replicate le) ]

pub AreMarks-none : (n : ℕ) → AreMarks (replicate n false) []
AreMarks-none n = record { each = get_or-none n; count = sum_by-replicate (λ b. cond b 1 0) n false ∙ omega arith }

pub is_among-push : (k number : ℕ) (numbers : List ℕ) → is_among k (numbers ++ number ∷ []) ≡ (is_among k numbers || eqb number k)
is_among-push k number numbers = list_any-append _ numbers (number ∷ []) ∙ ap (λ b. is_among k numbers || b) (or-false (eqb number k))

each-push : (marks : List Bool) (numbers : List ℕ) (number k : ℕ) → get_or marks k false ≡ is_among k numbers
    → number < length marks → get_or (set marks number true) k false ≡ is_among k (numbers ++ number ∷ [])
each-push marks numbers number k here lt =
    elim (cases_eq number k) [
      | inl e ↦ rw (← e) (get_or-set_same marks number true false lt
          ∙ sym (is_among-push number number numbers ∙ or_right (is_among number numbers) (eqb number number) (eq-eqb number number refl)))
      | inr ne ↦
          let other : k ≢ number = λ e. ne (sym e) in
          get_or-set_other marks number k true false other ∙ here
          ∙ sym (is_among-push k number numbers ∙ ap (λ b. is_among k numbers || b) (ne_eqb number k ne) ∙ or-false (is_among k numbers))
    ]

abbrev weight : Bool → ℕ
weight b = cond b 1 0

count-push : (marks : List Bool) (number n : ℕ) → number < length marks → get_or marks number false ≡ false
    → count_by (λ b. b) marks ≡ n → count_by (λ b. b) (set marks number true) ≡ n + 1
count-push marks number n lt free count =
    let moved = sum_by-set weight marks number true false lt in
    let none : weight (get_or marks number false) ≡ weight false = ap weight free in
    omega (arith, moved, none, count)

-- one more mark for one more number
pub AreMarks-push : (marks : List Bool) (numbers : List ℕ) (number : ℕ) → AreMarks marks numbers → number < length marks
    → get_or marks number false ≡ false → AreMarks (set marks number true) (numbers ++ number ∷ [])
AreMarks-push marks numbers number are lt free = record {
  each = λ k. each-push marks numbers number k (are.each k) lt;
  count = count-push marks number (length numbers) lt free are.count ∙ sym (length-append numbers (number ∷ []));
}

-- there are no more numbers than places for marks
pub AreMarks-few : (marks : List Bool) (numbers : List ℕ) → AreMarks marks numbers → length numbers ≤ length marks
AreMarks-few marks numbers are = omega (arith, are.count, count_by-le-length (λ b. b) marks)
