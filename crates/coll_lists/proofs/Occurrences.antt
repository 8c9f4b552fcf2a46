-- How often a node stands in a sequence, and the sequences after a move.
use Rattle.std.proofs.Common.{◌≡◌, ◌≢◌, ℕ, suc, ◌+◌, ◌<◌, cond, List, [], ◌∷◌, ◌++◌, length, eqb, sym, refl, ap, subst, ◌∙◌, inl, inr, eq-eqb, ne_eqb}
use Rattle.std.proofs.Common.{arith, zero-add, add_assoc, add-zero, add-one, suc-ne-zero, length-append}
use Rattle.std.proofs.Math.ListN.{get_or-map}
use Rattle.std.proofs.lemmas.Bool.{cases_eq}
use Rattle.std.proofs.lemmas.List.{get_or-set_same, get_or-set_other, length-set, length-map}
use Rattle.coll_lists.specs.Layouts.{Layout, sequence, times}
use Rattle.coll_lists.specs.Moves.{taken_out, without, moved_back, moved_front}
use Rattle.coll_lists.proofs.Rings.{Avoids, taken_out-same, taken_out-other}

-- a node at the front counts, or not
pub times-same : (x y : ℕ) (rest : List ℕ) → y ≡ x → times x (y ∷ rest) ≡ suc (times x rest)
times-same x y rest e = ap (λ t. cond t 1 0 + times x rest) (eq-eqb y x e) ∙ omega arith

pub times-other : (x y : ℕ) (rest : List ℕ) → y ≢ x → times x (y ∷ rest) ≡ times x rest
times-other x y rest ne = ap (λ t. cond t 1 0 + times x rest) (ne_eqb y x ne) ∙ zero-add (times x rest)

pub times-append : (x : ℕ) (s t : List ℕ) → times x (s ++ t) ≡ times x s + times x t
times-append x [] t = sym (zero-add (times x t))
times-append x (y ∷ rest) t =
    ap (λ z. cond (eqb y x) 1 0 + z) (times-append x rest t) ∙ sym (add_assoc (cond (eqb y x) 1 0) (times x rest) (times x t))

pub times-taken_out : (x : ℕ) (s : List ℕ) → times x (taken_out x s) ≡ 0
times-taken_out x [] = refl
times-taken_out x (y ∷ rest) =
    elim (cases_eq y x) [
      | inl e ↦ ap (times x) (taken_out-same x y rest e) ∙ times-taken_out x rest
      | inr off ↦ ap (times x) (taken_out-other x y rest off) ∙ times-other x y (taken_out x rest) off ∙ times-taken_out x rest
    ]

pub times-taken_out-other : (x z : ℕ) (s : List ℕ) → z ≢ x → times z (taken_out x s) ≡ times z s
times-taken_out-other x z [] ne = refl
times-taken_out-other x z (y ∷ rest) ne =
    elim (cases_eq y x) [
      | inl e ↦ ap (times z) (taken_out-same x y rest e) ∙ times-taken_out-other x z rest ne
          ∙ sym (times-other z y rest (λ f. ne (sym f ∙ e)))
      | inr off ↦ ap (times z) (taken_out-other x y rest off)
          ∙ ap (λ k. cond (eqb y z) 1 0 + k) (times-taken_out-other x z rest ne)
    ]

pub length-taken_out : (x : ℕ) (s : List ℕ) → length (taken_out x s) + times x s ≡ length s
length-taken_out x [] = refl
length-taken_out x (y ∷ rest) =
    let next : length (taken_out x rest) + times x rest ≡ length rest = length-taken_out x rest in
    elim (cases_eq y x) [
      | inl e ↦
          let out : length (taken_out x (y ∷ rest)) ≡ length (taken_out x rest) = ap length (taken_out-same x y rest e) in
          let once : times x (y ∷ rest) ≡ suc (times x rest) = times-same x y rest e in
          omega (arith, out, once, next)
      | inr off ↦
          let out : length (taken_out x (y ∷ rest)) ≡ suc (length (taken_out x rest)) = ap length (taken_out-other x y rest off) in
          let same : times x (y ∷ rest) ≡ times x rest = times-other x y rest off in
          omega (arith, out, same, next)
    ]

-- a node that doesn't stand there isn't met
pub Avoids-from_times : (x : ℕ) (s : List ℕ) → times x s ≡ 0 → Avoids x s
Avoids-from_times x [] none = tt
Avoids-from_times x (y ∷ rest) none =
    elim (cases_eq y x) [
      | inl e ↦ absurd (suc-ne-zero (times x rest) (sym (times-same x y rest e) ∙ none))
      | inr off ↦ (off, Avoids-from_times x rest (sym (times-other x y rest off) ∙ none))
    ]

pub sequence-without : (x : ℕ) (lists : Layout) (l : ℕ) → sequence (without x lists) l ≡ taken_out x (sequence lists l)
sequence-without x lists l = get_or-map (taken_out x) lists l []

-- M is L with x taken out of every list, and put again on list l
pub record Moved (x l : ℕ) (L M : Layout) : Type 0 where
  pub lists : length M ≡ length L
  pub others : (k : ℕ) → k ≢ l → sequence M k ≡ taken_out x (sequence L k)
  pub again : times x (sequence M l) ≡ 1
  pub kept : (z : ℕ) → z ≢ x → times z (sequence M l) ≡ times z (sequence L l)
  pub longer : length (sequence M l) ≡ suc (length (taken_out x (sequence L l)))

pub sequence-moved_back : (x l : ℕ) (L : Layout) → l < length L → sequence (moved_back x l L) l ≡ taken_out x (sequence L l) ++ x ∷ []
sequence-moved_back x l L low =
    get_or-set_same (without x L) l _ [] (subst (λ z. l < z) (sym (length-map L (taken_out x))) low)
    ∙ ap (λ s. s ++ x ∷ []) (sequence-without x L l)

pub sequence-moved_front : (x l : ℕ) (L : Layout) → l < length L → sequence (moved_front x l L) l ≡ x ∷ taken_out x (sequence L l)
sequence-moved_front x l L low =
    get_or-set_same (without x L) l _ [] (subst (λ z. l < z) (sym (length-map L (taken_out x))) low)
    ∙ ap (λ s. x ∷ s) (sequence-without x L l)

pub Moved-back : (x l : ℕ) (L : Layout) → l < length L → Moved x l L (moved_back x l L)
Moved-back x l L low =
    let is : sequence (moved_back x l L) l ≡ taken_out x (sequence L l) ++ x ∷ [] = sequence-moved_back x l L low in
    record {
      lists = length-set (without x L) l _ ∙ length-map L (taken_out x);
      others = λ k ne. get_or-set_other (without x L) l k _ [] ne ∙ sequence-without x L k;
      again = ap (times x) is ∙ times-append x (taken_out x (sequence L l)) (x ∷ [])
          ∙ ap (λ n. n + times x (x ∷ [])) (times-taken_out x (sequence L l)) ∙ zero-add _ ∙ times-same x x [] refl;
      kept = λ z ne. ap (times z) is ∙ times-append z (taken_out x (sequence L l)) (x ∷ [])
          ∙ ap (λ n. times z (taken_out x (sequence L l)) + n) (times-other z x [] (λ e. ne (sym e)))
          ∙ add-zero _ ∙ times-taken_out-other x z (sequence L l) ne;
      longer = ap length is ∙ length-append (taken_out x (sequence L l)) (x ∷ []) ∙ add-one _;
    }

pub Moved-front : (x l : ℕ) (L : Layout) → l < length L → Moved x l L (moved_front x l L)
Moved-front x l L low =
    let is : sequence (moved_front x l L) l ≡ x ∷ taken_out x (sequence L l) = sequence-moved_front x l L low in
    record {
      lists = length-set (without x L) l _ ∙ length-map L (taken_out x);
      others = λ k ne. get_or-set_other (without x L) l k _ [] ne ∙ sequence-without x L k;
      again = ap (times x) is ∙ times-same x x _ refl ∙ ap suc (times-taken_out x (sequence L l));
      kept = λ z ne. ap (times z) is ∙ times-other z x _ (λ e. ne (sym e)) ∙ times-taken_out-other x z (sequence L l) ne;
      longer = ap length is;
    }
