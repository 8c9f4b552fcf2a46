-- A list with another element at one place, looked up.
use Rattle.std.proofs.Common.{◌≡◌, ℕ, zero, suc, ◌<◌, List, [], ◌∷◌, length, Some, refl, ap, arith}
use Rattle.std.specs.Prelude.{slice_get, slice_set}

pub here : {X : Type 0} (xs : List X) (i : ℕ) (x : X) → i < length xs → slice_get (slice_set xs i x) i ≡ Some x
here [] i x lt = absurd (omega arith)
here (y ∷ xs) zero x lt = refl
here (y ∷ xs) (suc i) x lt = here xs i x (omega arith)

pub elsewhere : {X : Type 0} (xs : List X) (i : ℕ) (x : X) (j : ℕ) → (j ≡ i → ⊥) → slice_get (slice_set xs i x) j ≡ slice_get xs j
elsewhere [] i x j d = refl
elsewhere (y ∷ xs) zero x zero d = absurd (d refl)
elsewhere (y ∷ xs) zero x (suc j) d = refl
elsewhere (y ∷ xs) (suc i) x zero d = refl
elsewhere (y ∷ xs) (suc i) x (suc j) d = elsewhere xs i x j (λ e. d (ap suc e))

pub as_many : {X : Type 0} (xs : List X) (i : ℕ) (x : X) → length (slice_set xs i x) ≡ length xs
as_many [] i x = refl
as_many (y ∷ xs) zero x = refl
as_many (y ∷ xs) (suc i) x = ap suc (as_many xs i x)
