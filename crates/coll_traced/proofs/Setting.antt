-- A list with another element at one place, looked up.
use Rattle.std.proofs.Common.{◌≡◌, ℕ, zero, suc, ◌<◌, List, [], ◌∷◌, length, Some, refl, ap, arith}
use Rattle.std.specs.Prelude.{slice_get, slice_set}

pub get_set : {X : Type 0} (xs : List X) (i : ℕ) (x : X) → i < length xs → slice_get (slice_set xs i x) i ≡ Some x
get_set [] i x lt = absurd (omega arith)
get_set (y ∷ xs) zero x lt = refl
get_set (y ∷ xs) (suc i) x lt = get_set xs i x (omega arith)

pub get_set_other : {X : Type 0} (xs : List X) (i : ℕ) (x : X) (j : ℕ) → (j ≡ i → ⊥) → slice_get (slice_set xs i x) j ≡ slice_get xs j
get_set_other [] i x j d = refl
get_set_other (y ∷ xs) zero x zero d = absurd (d refl)
get_set_other (y ∷ xs) zero x (suc j) d = refl
get_set_other (y ∷ xs) (suc i) x zero d = refl
get_set_other (y ∷ xs) (suc i) x (suc j) d = get_set_other xs i x j (λ e. d (ap suc e))

pub length_set : {X : Type 0} (xs : List X) (i : ℕ) (x : X) → length (slice_set xs i x) ≡ length xs
length_set [] i x = refl
length_set (y ∷ xs) zero x = refl
length_set (y ∷ xs) (suc i) x = ap suc (length_set xs i x)
