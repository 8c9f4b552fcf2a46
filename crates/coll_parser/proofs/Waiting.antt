-- Entries after a wait for several requests, one after another.
use Rattle.std.proofs.Common.{◌≡◌, ◌≢◌, ℕ, zero, suc, ◌<◌, Bool, true, false, cond, ◌||◌, eqb, List, [], ◌∷◌, ◌++◌, length, get_or, set, Option, Some}
use Rattle.std.proofs.Common.{None, refl, sym, ap, ◌∙◌, arith, inl, inr}
use Rattle.std.specs.Prelude.{slice_get}
use Rattle.std.specs.Option.{option_map}
use Rattle.std.proofs.Math.Bool.{or-false}
use Rattle.std.proofs.lemmas.Bool.{cases_eq, eq-eqb, ne_eqb, or_right}
use Rattle.std.proofs.lemmas.List.{length-set}
use Rattle.std.proofs.lemmas.Option.{slice_get-get_or, same_Some}
use Rattle.coll_kinds.specs.Groups.{is_among}
use Rattle.coll_parser.specs.declared.section.SectionEntry.{SectionEntry}
use Rattle.coll_parser.proofs.Numbers.{is_among-push}
use Rattle.coll_parser.proofs.Keeping.{waited_by, AreWaited}

slice-set_same : {X : Type 0} (xs : List X) (k : ℕ) (y : X) → k < length xs → slice_get (set xs k y) k ≡ Some y
slice-set_same [] k y lt = absurd (omega arith)
slice-set_same (x ∷ xs) zero y lt = refl
slice-set_same (x ∷ xs) (suc k) y lt = slice-set_same xs k y (omega arith)

slice-set_other : {X : Type 0} (xs : List X) (k j : ℕ) (y : X) → j ≢ k → slice_get (set xs k y) j ≡ slice_get xs j
slice-set_other [] k j y ne = refl
slice-set_other (x ∷ xs) zero zero y ne = absurd (ne refl)
slice-set_other (x ∷ xs) zero (suc j) y ne = refl
slice-set_other (x ∷ xs) (suc k) zero y ne = refl
slice-set_other (x ∷ xs) (suc k) (suc j) y ne = slice-set_other xs k j y (λ e. ne (ap suc e))

idle : (b : Bool) (x : SectionEntry) → record (cond b (record x { since = 0 }) x) { since = 0 } ≡ record x { since = 0 }
idle true x = refl
idle false x = refl

here_waited : (named : List ℕ) (q : ℕ) (o : Option SectionEntry) (p d : SectionEntry) → Some d ≡ option_map (waited_by named q) o
    → p ≡ record d { since = 0 } → Some p ≡ option_map (waited_by (named ++ q ∷ []) q) o
here_waited named q None p d at is = absurd cc
here_waited named q (Some x) p d at is =
    let same : d ≡ waited_by named q x = same_Some d (waited_by named q x) at in
    let named_now : is_among q (named ++ q ∷ []) ≡ true = is_among-push q q named ∙ or_right (is_among q named) (eqb q q) (eq-eqb q q refl) in
    let out : p ≡ record x { since = 0 } = is ∙ ap (λ (z : SectionEntry). record z { since = 0 }) same ∙ idle (is_among q named) x in
    rw named_now (ap Some out)

same_map : (o : Option SectionEntry) → o ≡ option_map (λ p. p) o
same_map None = refl
same_map (Some p) = refl

pub AreWaited-none : (old : List SectionEntry) → AreWaited [] old old
AreWaited-none old = (refl, λ q. same_map (slice_get old q))

pub AreWaited-more : (named : List ℕ) (q : ℕ) (old new : List SectionEntry) (p d : SectionEntry) → q < length old
    → AreWaited named old new → p ≡ record (get_or new q d) { since = 0 } → AreWaited (named ++ q ∷ []) old (set new q p)
AreWaited-more named q old new p d lt are is = (
  length-set new q p ∙ are.0,
  λ j. elim (cases_eq j q) [
    | inl e ↦
        let within : q < length new = omega (arith, lt, are.0) in
        rw e (slice-set_same new q p within ∙ here_waited named q (slice_get old q) p (get_or new q d) (sym (slice_get-get_or new q d within) ∙ are.1 q) is)
    | inr ne ↦
        let other : is_among j (named ++ q ∷ []) ≡ is_among j named =
        is_among-push j q named ∙ ap (λ b. is_among j named || b) (ne_eqb q j (λ e. ne (sym e))) ∙ or-false (is_among j named) in
        slice-set_other new q j p ne ∙ are.1 j ∙ ap (λ b. option_map (λ (z : SectionEntry). cond b (record z { since = 0 }) z) (slice_get old j)) (sym other)
  ],
)
