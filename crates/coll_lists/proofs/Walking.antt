-- Walks along a list give its sequence, or the reverse.
use Rattle.std.proofs.Common.{◌≡◌, ◌≢◌, ℕ, suc, ◌+◌, ◌-◌, ◌<◌, ◌≤◌, cond, Bool, true, false, List, [], ◌∷◌, ◌++◌, length, reverse, sym, refl, ap}
use Rattle.std.proofs.Common.{subst, ◌∙◌, inl, inr, Option, Some, None, eqb, slice_get, zero, eq-eqb, ne_eqb, lt-ltb, le-ltb, arith}
use Rattle.std.proofs.lemmas.Bool.{cases_eq, cases_lt}
use Rattle.std.proofs.lemmas.List.{length-reverse, reverse-append}
use Rattle.std.proofs.lemmas.Option.{same_Some}
use Rattle.std.specs.List.{concat}
use Rattle.std.specs.Option.{ForSome}
use Rattle.coll_lists.specs.Layouts.{IsLawful, Layout, list_of, sequence, times}
use Rattle.coll_lists.specs.Neighbours.{after_in, before_in, first_in, last_in}
use Rattle.coll_lists.specs.Walks.{from_node, in_order, onward}
use Rattle.coll_lists.proofs.Lawful.{list_of-first, list_of-stands}
use Rattle.coll_lists.proofs.Occurrences.{times-append, times-other, times-same}
use Rattle.coll_lists.proofs.WellLinked.{times-reverse}

-- a node of one list stands in all, as often at least
pub times-sequence : (x : ℕ) (L : Layout) (l : ℕ) → times x (sequence L l) ≤ times x (concat L)
times-sequence x [] l = omega arith
times-sequence x (s ∷ rest) zero = omega (arith, times-append x s (concat rest))
times-sequence x (s ∷ rest) (suc l) = omega (arith, times-append x s (concat rest), times-sequence x rest l)

-- and where it stands on two, twice
pub times-sequences : (x : ℕ) (L : Layout) (k l : ℕ) → k < l → times x (sequence L k) + times x (sequence L l) ≤ times x (concat L)
times-sequences x [] k l low = omega arith
times-sequences x (s ∷ rest) zero (suc l) low = omega (arith, times-append x s (concat rest), times-sequence x rest l)
times-sequences x (s ∷ rest) (suc k) (suc l) low = omega (arith, times-append x s (concat rest), times-sequences x rest k l (omega arith))
times-sequences x (s ∷ rest) k zero low = absurd (omega (arith, low))

-- in a lawful layout a node that stands on a list is below the count, and that is its list
pub stands : (n : ℕ) (L : Layout) → IsLawful n L → (x l : ℕ) → l < length L → 0 < times x (sequence L l) → (x < n) × (list_of L x ≡ l)
stands n L lawful x l low some =
    elim (cases_lt x n) [
      | inl x_low ↦
          let once : times x (concat L) ≡ 1 = lawful x ∙ ap (λ b. cond b 1 0) (lt-ltb x n x_low) in
          (x_low, list_of-first x L l low some (λ k k_low. omega (arith, once, times-sequences x L k l k_low)))
      | inr high ↦
          let never : times x (concat L) ≡ 0 = lawful x ∙ ap (λ b. cond b 1 0) (le-ltb x n high) in
          absurd (omega (arith, never, some, times-sequence x L l))
    ]

pub once_at_most : (n : ℕ) (L : Layout) → IsLawful n L → (l x : ℕ) → times x (sequence L l) ≤ 1
once_at_most n L lawful l x =
    elim (cases_lt x n) [
      | inl low ↦ omega (arith, times-sequence x L l, lawful x ∙ ap (λ b. cond b 1 0) (lt-ltb x n low))
      | inr high ↦ omega (arith, times-sequence x L l, lawful x ∙ ap (λ b. cond b 1 0) (le-ltb x n high))
    ]

-- a node stands on its list
pub node_stands : (n : ℕ) (L : Layout) → IsLawful n L → (x : ℕ) → x < n → (list_of L x < length L) × (0 < times x (sequence L (list_of L x)))
node_stands n L lawful x low =
    let once : times x (concat L) ≡ 1 = lawful x ∙ ap (λ b. cond b 1 0) (lt-ltb x n low) in
    list_of-stands x L (omega (arith, once))

pub first_stands : (s : List ℕ) (x : ℕ) → first_in s ≡ Some x → 0 < times x s
first_stands [] x e = cc
first_stands (y ∷ rest) x e =
    let is : y ≡ x = cc in
    subst (λ z. 0 < z) (sym (times-same x y rest is)) (omega arith)

-- the other way round the last node comes first, and the node before one stands after it
pub last_in-behind : (y z : ℕ) (rest : List ℕ) → last_in (y ∷ z ∷ rest) ≡ last_in (z ∷ rest)
last_in-behind y z rest =
    let far : length (y ∷ z ∷ rest) - 1 ≡ suc (length rest) = omega arith in
    let near : length rest ≡ length (z ∷ rest) - 1 = omega arith in
    ap (slice_get (y ∷ z ∷ rest)) far ∙ ap (slice_get (z ∷ rest)) near

pub first_in-append : (s t : List ℕ) → 0 < length s → first_in (s ++ t) ≡ first_in s
first_in-append [] t some = absurd (omega (arith, some))
first_in-append (y ∷ rest) t some = refl

pub reverse-front : (y : ℕ) (rest : List ℕ) → reverse (y ∷ rest) ≡ reverse rest ++ y ∷ []
reverse-front y rest = reverse-append (y ∷ []) rest

pub first_in-reverse : (s : List ℕ) → first_in (reverse s) ≡ last_in s
first_in-reverse [] = refl
first_in-reverse (y ∷ []) = refl
first_in-reverse (y ∷ z ∷ rest) =
    let long : length (reverse (z ∷ rest)) ≡ length (z ∷ rest) = length-reverse (z ∷ rest) in
    ap first_in (reverse-front y (z ∷ rest)) ∙ first_in-append (reverse (z ∷ rest)) (y ∷ []) (omega (arith, long))
    ∙ first_in-reverse (z ∷ rest) ∙ sym (last_in-behind y z rest)

pub after_in-push : (x z y : ℕ) (t : List ℕ) → z ≢ x → after_in x ((t ++ z ∷ []) ++ y ∷ []) ≡ after_in x (t ++ z ∷ [])
after_in-push x z y [] ne = ap (λ b. cond b (Some y) None) (ne_eqb z x ne)
after_in-push x z y (a ∷ []) ne = ap (λ k. cond (eqb a x) (Some z) k) (after_in-push x z y [] ne)
after_in-push x z y (a ∷ b ∷ t) ne = ap (λ k. cond (eqb a x) (Some b) k) (after_in-push x z y (b ∷ t) ne)

pub after_in-pushed : (x z y : ℕ) (t : List ℕ) → z ≡ x → times x t ≡ 0 → after_in x ((t ++ z ∷ []) ++ y ∷ []) ≡ Some y
after_in-pushed x z y [] e none = ap (λ b. cond b (Some y) None) (eq-eqb z x e)
after_in-pushed x z y (a ∷ []) e none =
    elim (cases_eq a x) [
      | inl f ↦ absurd (omega (arith, none, times-same x a [] f))
      | inr ne ↦ ap (λ b. cond b (Some z) (after_in x (z ∷ y ∷ []))) (ne_eqb a x ne) ∙ after_in-pushed x z y [] e refl
    ]
after_in-pushed x z y (a ∷ b ∷ t) e none =
    elim (cases_eq a x) [
      | inl f ↦ absurd (omega (arith, none, times-same x a (b ∷ t) f))
      | inr ne ↦ ap (λ k. cond k (Some b) (after_in x (((b ∷ t) ++ z ∷ []) ++ y ∷ []))) (ne_eqb a x ne)
          ∙ after_in-pushed x z y (b ∷ t) e (sym (times-other x a (b ∷ t) ne) ∙ none)
    ]

pub after_in-reverse : (x : ℕ) (s : List ℕ) → times x s ≤ 1 → after_in x (reverse s) ≡ before_in x s
after_in-reverse x [] once = refl
after_in-reverse x (y ∷ []) once = refl
after_in-reverse x (y ∷ z ∷ rest) once =
    let turned : reverse (y ∷ z ∷ rest) ≡ (reverse rest ++ z ∷ []) ++ y ∷ [] = reverse-front y (z ∷ rest) ∙ ap (λ k. k ++ y ∷ []) (reverse-front z rest) in
    let fewer : times x (z ∷ rest) ≤ 1 = elim (cases_eq y x) [
      | inl e ↦ omega (arith, once, times-same x y (z ∷ rest) e)
      | inr ne ↦ omega (arith, once, times-other x y (z ∷ rest) ne)
    ] in
    ap (after_in x) turned
    ∙ elim (cases_eq z x) [
      | inl e ↦ after_in-pushed x z y (reverse rest) e (times-reverse x rest ∙ omega (arith, fewer, times-same x z rest e))
          ∙ sym (ap (λ b. cond b (Some y) (before_in x (z ∷ rest))) (eq-eqb z x e))
      | inr ne ↦ after_in-push x z y (reverse rest) ne ∙ ap (after_in x) (sym (reverse-front z rest)) ∙ after_in-reverse x (z ∷ rest) fewer
          ∙ sym (ap (λ b. cond b (Some y) (before_in x (z ∷ rest))) (ne_eqb z x ne))
    ]

-- a walk from a node on, or none
abbrev pub from_option : Option ℕ → List ℕ → List ℕ
from_option None s = []
from_option (Some node) s = from_node node s

pub from_node-here : (x y : ℕ) (rest : List ℕ) → y ≡ x → from_node x (y ∷ rest) ≡ y ∷ rest
from_node-here x y rest e = ap (λ b. cond b (y ∷ rest) (from_node x rest)) (eq-eqb y x e)

pub from_node-later : (x y : ℕ) (rest : List ℕ) → y ≢ x → from_node x (y ∷ rest) ≡ from_node x rest
from_node-later x y rest ne = ap (λ b. cond b (y ∷ rest) (from_node x rest)) (ne_eqb y x ne)

-- a walk that starts after the front
pub from_option-later : (r : Option ℕ) (y : ℕ) (rest : List ℕ) → ((w : ℕ) → r ≡ Some w → y ≢ w) → from_option r (y ∷ rest) ≡ from_option r rest
from_option-later None y rest ne = refl
from_option-later (Some w) y rest ne = from_node-later w y rest (ne w refl)

-- a walk from the first node
pub from_first : (s : List ℕ) → from_option (first_in s) s ≡ s
from_first [] = refl
from_first (y ∷ rest) = from_node-here y y rest refl

-- where each node stands once at most, a walk goes on with the next node
pub record Goes (x : ℕ) (s : List ℕ) : Type 0 where
  pub on : from_node x s ≡ x ∷ from_option (after_in x s) s
  pub stays : (w : ℕ) → after_in x s ≡ Some w → 0 < times w s

pub goes : (x : ℕ) (s : List ℕ) → ((z : ℕ) → times z s ≤ 1) → 0 < times x s → Goes x s
goes x [] once some = absurd (omega (arith, some))
goes x (y ∷ []) once some =
    elim (cases_eq y x) [
      | inl e ↦ record { on = from_node-here x y [] e ∙ ap (λ z. z ∷ []) e; stays = λ w is. absurd (cc) }
      | inr ne ↦ absurd (omega (arith, some, times-other x y [] ne))
    ]
goes x (y ∷ z ∷ rest) once some =
    let tail : (v : ℕ) → times v (z ∷ rest) ≤ 1 = λ v.
    elim (cases_eq y v) [
      | inl e ↦ omega (arith, once v, times-same v y (z ∷ rest) e)
      | inr ne ↦ omega (arith, once v, times-other v y (z ∷ rest) ne)
    ] in
    let gone : times y (z ∷ rest) ≡ 0 = omega (arith, once y, times-same y y (z ∷ rest) refl) in
    elim (cases_eq y x) [
      | inl e ↦
          let next : after_in x (y ∷ z ∷ rest) ≡ Some z = ap (λ b. cond b (Some z) (after_in x (z ∷ rest))) (eq-eqb y x e) in
          let here : 0 < times z (z ∷ rest) = subst (λ k. 0 < k) (sym (times-same z z rest refl)) (omega arith) in
          let apart : y ≢ z = λ f. absurd (omega (arith, here, subst (λ k. times k (z ∷ rest) ≡ 0) f gone)) in
          record {
            on = from_node-here x y (z ∷ rest) e ∙ ap (λ k. k ∷ z ∷ rest) e
                ∙ ap (λ k. x ∷ k) (sym (ap (λ r. from_option r (y ∷ z ∷ rest)) next ∙ from_node-later z y (z ∷ rest) apart ∙ from_node-here z z rest refl));
            stays = λ w is.
                let same : z ≡ w = same_Some z w (sym next ∙ is) in
                subst (λ k. 0 < times k (y ∷ z ∷ rest)) same (subst (λ k. 0 < k) (sym (times-other z y (z ∷ rest) apart)) here);
          }
      | inr ne ↦
          let next : after_in x (y ∷ z ∷ rest) ≡ after_in x (z ∷ rest) = ap (λ b. cond b (Some z) (after_in x (z ∷ rest))) (ne_eqb y x ne) in
          let more : Goes x (z ∷ rest) = goes x (z ∷ rest) tail (subst (λ k. 0 < k) (times-other x y (z ∷ rest) ne) some) in
          let apart : (w : ℕ) → after_in x (z ∷ rest) ≡ Some w
          → y ≢ w = λ w is f. absurd (omega (arith, more.stays w is, subst (λ k. times k (z ∷ rest) ≡ 0) f gone)) in
          record {
            on = from_node-later x y (z ∷ rest) ne ∙ more.on
                ∙ ap (λ k. x ∷ k) (sym (ap (λ r. from_option r (y ∷ z ∷ rest)) next ∙ from_option-later (after_in x (z ∷ rest)) y (z ∷ rest) apart));
            stays = λ w is.
                let was : after_in x (z ∷ rest) ≡ Some w = sym next ∙ is in
                subst (λ k. 0 < k) (sym (times-other w y (z ∷ rest) (apart w was))) (more.stays w was);
          }
    ]

-- a sequence in either order
pub times-in_order : (b : Bool) (x : ℕ) (s : List ℕ) → times x (in_order b s) ≡ times x s
times-in_order true x s = times-reverse x s
times-in_order false x s = refl

-- what a step answers, and what a walk starts with
abbrev pub beside : Bool → ℕ → List ℕ → Option ℕ
beside b x s = cond b (before_in x s) (after_in x s)

abbrev pub end_of : Bool → List ℕ → Option ℕ
end_of b s = cond b (last_in s) (first_in s)

pub after_in-in_order : (b : Bool) (x : ℕ) (s : List ℕ) → times x s ≤ 1 → after_in x (in_order b s) ≡ beside b x s
after_in-in_order true x s once = after_in-reverse x s once
after_in-in_order false x s once = refl

pub first_in-in_order : (b : Bool) (s : List ℕ) → first_in (in_order b s) ≡ end_of b s
first_in-in_order true s = first_in-reverse s
first_in-in_order false s = refl

module _ (n : ℕ) (L : Layout) (lawful : IsLawful n L) (b : Bool) where
  -- a walk along the list that its first node stands on
  pub onward-on : (r : Option ℕ) (l : ℕ) → l < length L → ((w : ℕ) → r ≡ Some w → 0 < times w (sequence L l))
      → onward L b r ≡ from_option r (in_order b (sequence L l))
  onward-on None l low there = refl
  onward-on (Some w) l low there = ap (λ k. from_node w (in_order b (sequence L k))) (stands n L lawful w l low (there w refl)).1

  pub goes_on : (x : ℕ) → x < n → Goes x (in_order b (sequence L (list_of L x)))
  goes_on x low =
      let at = node_stands n L lawful x low in
      goes x (in_order b (sequence L (list_of L x)))
      (λ z. subst (λ k. k ≤ 1) (sym (times-in_order b z (sequence L (list_of L x)))) (once_at_most n L lawful (list_of L x) z))
      (subst (λ k. 0 < k) (sym (times-in_order b x (sequence L (list_of L x)))) at.1)

  pub step_is : (x : ℕ) → after_in x (in_order b (sequence L (list_of L x))) ≡ beside b x (sequence L (list_of L x))
  step_is x = after_in-in_order b x (sequence L (list_of L x)) (once_at_most n L lawful (list_of L x) x)

  pub onward-step : (x : ℕ) (r : Option ℕ) → x < n → r ≡ beside b x (sequence L (list_of L x))
      → (onward L b (Some x) ≡ x ∷ onward L b r) × ForSome r (λ w. w < n)
  onward-step x r low is =
      let at = node_stands n L lawful x low in
      let step : Goes x (in_order b (sequence L (list_of L x))) = goes_on x low in
      let there : (w : ℕ) → after_in x (in_order b (sequence L (list_of L x))) ≡ Some w → 0 < times w (sequence L (list_of L x)) =
      λ w e. subst (λ k. 0 < k) (times-in_order b w (sequence L (list_of L x))) (step.stays w e) in
      let same : r ≡ after_in x (in_order b (sequence L (list_of L x))) = is ∙ sym (step_is x) in (
        step.on ∙ ap (λ k. x ∷ k) (sym (ap (onward L b) same ∙ onward-on (after_in x (in_order b (sequence L (list_of L x)))) (list_of L x) at.0 there)),
        λ w r_is. (stands n L lawful w (list_of L x) at.0 (there w (sym same ∙ r_is))).0,
      )

  pub onward-start : (l : ℕ) (r : Option ℕ) → l < length L → r ≡ end_of b (sequence L l) → (onward L b r ≡ in_order b (sequence L l)) × ForSome r (λ w. w < n)
  onward-start l r low is =
      let same : r ≡ first_in (in_order b (sequence L l)) = is ∙ sym (first_in-in_order b (sequence L l)) in
      let there : (w : ℕ) → first_in (in_order b (sequence L l)) ≡ Some w → 0 < times w (sequence L l) =
      λ w e. subst (λ k. 0 < k) (times-in_order b w (sequence L l)) (first_stands (in_order b (sequence L l)) w e) in (
        ap (onward L b) same ∙ onward-on (first_in (in_order b (sequence L l))) l low there ∙ from_first (in_order b (sequence L l)),
        λ w r_is. (stands n L lawful w l low (there w (sym same ∙ r_is))).0,
      )
