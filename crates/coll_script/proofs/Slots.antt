-- The element at a place, after a write or one more element.
use Rattle.std.proofs.Common.{◌≡◌, ℕ, zero, suc, ◌<◌, List, [], ◌∷◌, ◌++◌, length, set, Some, refl, ap, arith}
use Rattle.std.specs.Prelude.{slice_get}

pub slice_get-set_same : {X : Type 0} (xs : List X) (i : ℕ) (y : X) → i < length xs → slice_get (set xs i y) i ≡ Some y
slice_get-set_same [] i y lt = absurd (omega arith)
slice_get-set_same (x ∷ xs) zero y lt = refl
slice_get-set_same (x ∷ xs) (suc i) y lt = slice_get-set_same xs i y (omega arith)

pub slice_get-set_other : {X : Type 0} (xs : List X) (i j : ℕ) (y : X) → (j ≡ i → ⊥) → slice_get (set xs i y) j ≡ slice_get xs j
slice_get-set_other [] i j y ne = refl
slice_get-set_other (x ∷ xs) zero zero y ne = absurd (ne refl)
slice_get-set_other (x ∷ xs) zero (suc j) y ne = refl
slice_get-set_other (x ∷ xs) (suc i) zero y ne = refl
slice_get-set_other (x ∷ xs) (suc i) (suc j) y ne = slice_get-set_other xs i j y (λ e. ne (ap suc e))

pub slice_get-push_same : {X : Type 0} (xs : List X) (i : ℕ) (y : X) → i ≡ length xs → slice_get (xs ++ y ∷ []) i ≡ Some y
slice_get-push_same [] zero y e = refl
slice_get-push_same [] (suc i) y e = absurd (omega arith)
slice_get-push_same (x ∷ xs) zero y e = absurd (omega arith)
slice_get-push_same (x ∷ xs) (suc i) y e = slice_get-push_same xs i y (omega arith)
