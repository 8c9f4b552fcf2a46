-- Lists over the members and the rounds, as loops make them, and counts over them
use Rattle.std.proofs.Common.{◌≡◌, ℕ, zero, suc, ◌+◌, Bool, ◌||◌, List, [], ◌∷◌, ◌++◌, refl, sym, ap, ◌∙◌, append_assoc, add-zero, zero-add, add-one}
use Rattle.std.proofs.Common.{cond, arith}
use Rattle.std.specs.Prelude.{flat_map, count_by}
use Rattle.std.specs.List.{list_any}
use Rattle.std.proofs.lemmas.Grind.{flat_map-append}
use Rattle.std.proofs.lemmas.List.{append-nil}
use Rattle.std.proofs.lemmas.List.Folds.{list_any-append}
use Rattle.std.proofs.lemmas.List.Sums.{sum_by_push}
use Rattle.std.proofs.Math.Bool.{or-false}
use Rattle.coll_sched.specs.Families.{members}

-- one more number at the end
pub members-more : (k c : ℕ) → members k (c + 1) ≡ members k c ++ (k + c) ∷ []
members-more k zero = rw add-zero refl
members-more k (suc c) =
    let rest : members (suc k) (suc c) ≡ members (suc k) c ++ (suc k + c) ∷ [] = rw add-one at (members-more (suc k) c) in
    let last : suc k + c ≡ k + suc c = omega arith in
    rw add-one (ap (λ (xs : List ℕ). k ∷ xs) (rest ∙ ap (λ (m : ℕ). members (suc k) c ++ m ∷ []) last))

-- what a function makes of the numbers below c + 1
pub flat_map_members-more : {X : Type 0} (f : ℕ → List X) (c : ℕ) → flat_map f (members 0 (c + 1)) ≡ flat_map f (members 0 c) ++ f c
flat_map_members-more {X} f c =
    rw members-more (flat_map-append f (members 0 c) ((0 + c) ∷ [])
    ∙ ap (λ (xs : List X). flat_map f (members 0 c) ++ xs) (append-nil (f (0 + c)) ∙ ap f (zero-add c)))

pub count_by_members-more : (p : ℕ → Bool) (c : ℕ) → count_by p (members 0 (c + 1)) ≡ count_by p (members 0 c) + cond (p c) 1 0
count_by_members-more p c =
    rw members-more (sum_by_push (λ (k : ℕ). cond (p k) 1 0) (members 0 c) (0 + c) ∙ ap (λ (k : ℕ). count_by p (members 0 c) + cond (p k) 1 0) (zero-add c))

pub list_any_members-more : (p : ℕ → Bool) (c : ℕ) → list_any p (members 0 (c + 1)) ≡ (list_any p (members 0 c) || p c)
list_any_members-more p c =
    rw members-more (list_any-append p (members 0 c) ((0 + c) ∷ [])
    ∙ ap (λ (b : Bool). list_any p (members 0 c) || b) (or-false (p (0 + c)) ∙ ap p (zero-add c)))

-- the same after what stood there before
pub flat_map_members-push : {X : Type 0} (f : ℕ → List X) (c : ℕ) (before now next : List X) → now ≡ before ++ flat_map f (members 0 c) → next ≡ now ++ f c
    → next ≡ before ++ flat_map f (members 0 (c + 1))
flat_map_members-push {X} f c before now next so_far pushed =
    pushed ∙ (ap (λ (xs : List X). xs ++ f c) so_far
    ∙ (append_assoc before (flat_map f (members 0 c)) (f c) ∙ ap (λ (xs : List X). before ++ xs) (sym (flat_map_members-more f c))))
