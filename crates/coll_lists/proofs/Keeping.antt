-- What a move keeps.
use Rattle.std.proofs.Common.{◌≡◌, ℕ, suc, ◌<◌, cond, not, List, [], ◌∷◌, ◌++◌, length, eqb, ltb, sym, refl, ap, subst, ◌∙◌, inl, inr, arith, append-nil}
use Rattle.std.proofs.lemmas.Bool.{cases_eq}
use Rattle.std.proofs.lemmas.List.{ext_get_or, length-map}
use Rattle.std.proofs.lemmas.List.Elements.{filter-append}
use Rattle.coll_lists.specs.Keeping.{KeepsTheRest}
use Rattle.coll_lists.specs.Layouts.{IsLawful, Layout, list_of, sequence, times}
use Rattle.coll_lists.specs.Moves.{moved_back, moved_front, taken_out, without}
use Rattle.coll_lists.proofs.Lawful.{IsLawful-moved_back, IsLawful-moved_front, list_of-first}
use Rattle.coll_lists.proofs.Occurrences.{Moved, Moved-back, Moved-front, sequence-moved_back, sequence-moved_front, sequence-without}
use Rattle.coll_lists.proofs.Occurrences.{times-taken_out, times-taken_out-other}
use Rattle.coll_lists.proofs.Rings.{taken_out-other, taken_out-same}

-- taking a node out twice is taking it out once
pub taken_out-taken_out : (x : ℕ) (s : List ℕ) → taken_out x (taken_out x s) ≡ taken_out x s
taken_out-taken_out x [] = refl
taken_out-taken_out x (y ∷ rest) =
    elim (cases_eq y x) [
      | inl e ↦ ap (taken_out x) (taken_out-same x y rest e) ∙ taken_out-taken_out x rest ∙ sym (taken_out-same x y rest e)
      | inr ne ↦ ap (taken_out x) (taken_out-other x y rest ne) ∙ taken_out-other x y (taken_out x rest) ne
          ∙ ap (λ z. y ∷ z) (taken_out-taken_out x rest) ∙ sym (taken_out-other x y rest ne)
    ]

-- lists on which a node stands equally often have it first at the same place
pub list_of-same : (z : ℕ) (K L : Layout) → length K ≡ length L
    → ((k : ℕ) → k < length L → times z (sequence K k) ≡ times z (sequence L k)) → list_of K z ≡ list_of L z
list_of-same z [] [] e same = refl
list_of-same z [] (t ∷ ts) e same = absurd (omega (arith, e))
list_of-same z (s ∷ ss) [] e same = absurd (omega (arith, e))
list_of-same z (s ∷ ss) (t ∷ ts) e same =
    ap (λ n. cond (ltb 0 n) 0 (suc (list_of ss z))) (same 0 (omega arith))
    ∙ ap (λ n. cond (ltb 0 (times z t)) 0 (suc n)) (list_of-same z ss ts (omega (arith, e)) (λ k low. same (suc k) (omega arith)))

-- what both moves have in common
pub KeepsTheRest-moved : (x l : ℕ) (L M : Layout) → l < length L → Moved x l L M → taken_out x (sequence M l) ≡ taken_out x (sequence L l) →
    ((nodes : ℕ) → x < nodes → IsLawful nodes L → IsLawful nodes M) → KeepsTheRest x l L M
KeepsTheRest-moved x l L M low moved out lawful =
    record {
      rest = ext_get_or [] (without x M) (without x L) (length-map M (taken_out x) ∙ moved.lists ∙ sym (length-map L (taken_out x)))
          (λ k _. sequence-without x M k
          ∙ elim (cases_eq k l) [
            | inl e ↦ ap (λ z. taken_out x (sequence M z)) e ∙ out ∙ ap (λ z. taken_out x (sequence L z)) (sym e)
            | inr ne ↦ ap (taken_out x) (moved.others k ne) ∙ taken_out-taken_out x (sequence L k)
          ]
          ∙ sym (sequence-without x L k));
      place = list_of-first x M l (subst (λ z. l < z) (sym moved.lists) low) (subst (λ z. 0 < z) (sym moved.again) (omega arith))
          (λ k k_low. ap (times x) (moved.others k (λ e. absurd (omega (arith, e)))) ∙ times-taken_out x (sequence L k));
      others = λ z ne. list_of-same z M L moved.lists
          (λ k k_low.
          elim (cases_eq k l) [
            | inl e ↦ ap (λ i. times z (sequence M i)) e ∙ moved.kept z ne ∙ ap (λ i. times z (sequence L i)) (sym e)
            | inr off ↦ ap (times z) (moved.others k off) ∙ times-taken_out-other x z (sequence L k) ne
          ]);
      lawful = lawful;
    }

pub KeepsTheRest-back : (x l : ℕ) (L : Layout) → l < length L → KeepsTheRest x l L (moved_back x l L)
KeepsTheRest-back x l L low =
    KeepsTheRest-moved x l L (moved_back x l L) low (Moved-back x l L low)
    (ap (taken_out x) (sequence-moved_back x l L low) ∙ filter-append (λ z. not (eqb z x)) (taken_out x (sequence L l)) (x ∷ [])
    ∙ ap (λ t. taken_out x (taken_out x (sequence L l)) ++ t) (taken_out-same x x [] refl) ∙ append-nil _ ∙ taken_out-taken_out x (sequence L l))
    (λ n x_low lawful. IsLawful-moved_back n L lawful x l x_low low)

pub KeepsTheRest-front : (x l : ℕ) (L : Layout) → l < length L → KeepsTheRest x l L (moved_front x l L)
KeepsTheRest-front x l L low =
    KeepsTheRest-moved x l L (moved_front x l L) low (Moved-front x l L low)
    (ap (taken_out x) (sequence-moved_front x l L low) ∙ taken_out-same x x _ refl ∙ taken_out-taken_out x (sequence L l))
    (λ n x_low lawful. IsLawful-moved_front n L lawful x l x_low low)
