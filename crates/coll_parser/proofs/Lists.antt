-- What holds of each element of a list, and of the elements at places.
use Rattle.std.proofs.Common.{◌≡◌, ℕ, zero, suc, ◌+◌, ◌<◌, ◌≤◌, arith, List, [], ◌∷◌, ◌++◌, length, get_or, map, take, drop, replicate, refl, ap, ◌∙◌}
use Rattle.std.proofs.Common.{subst, add-one, Some}
use Rattle.std.specs.Prelude.{slice_get, IfSome}
use Rattle.std.specs.List.{AllByRecursion}
use Rattle.std.proofs.lemmas.Option.{none-some, same_Some, slice_get-map, slice_get-get_or, slice_get_read}
use Rattle.std.specs.Option.{option_map}
use Rattle.std.proofs.Math.Seq.{drop-cons}

pub AllByRecursion-at : {X : Type 0} (P : X → Type 0) (xs : List X) (i : ℕ) (x : X) → AllByRecursion P xs → slice_get xs i ≡ Some x → P x
AllByRecursion-at P [] i x h e = absurd (none-some x e)
AllByRecursion-at P (y ∷ ys) zero x h e = subst P (same_Some y x e) h.0
AllByRecursion-at P (y ∷ ys) (suc i) x h e = AllByRecursion-at P ys i x h.1 e

pub AllByRecursion-weaker : {X : Type 0} (P Q : X → Type 0) → ((x : X) → P x → Q x) → (xs : List X) → AllByRecursion P xs → AllByRecursion Q xs
AllByRecursion-weaker P Q f [] h = tt
AllByRecursion-weaker P Q f (x ∷ xs) h = (f x h.0, AllByRecursion-weaker P Q f xs h.1)

pub AllByRecursion-push : {X : Type 0} (P : X → Type 0) (xs : List X) (y : X) → AllByRecursion P xs → P y → AllByRecursion P (xs ++ y ∷ [])
AllByRecursion-push P [] y h here = (here, tt)
AllByRecursion-push P (x ∷ xs) y h here = (h.0, AllByRecursion-push P xs y h.1 here)

-- what is left of a list at a place
pub drop-more : {X : Type 0} (xs : List X) (k : ℕ) (x : X) → k < length xs → x ≡ get_or xs k x → drop k xs ≡ x ∷ drop (k + 1) xs
drop-more xs k x lt is = rw (add-one, drop-cons xs k x lt, ← is) refl

-- what was read of a list, in a view of it
pub slice_get-view : {X Y : Type 0} (view : X → Y) (xs : List X) (i : ℕ) (x : X) → i < length xs → x ≡ get_or xs i x → slice_get (map view xs) i ≡ Some (view x)
slice_get-view view xs i x lt is = slice_get-map view xs i ∙ ap (option_map view) (slice_get_read xs (length xs) i x refl lt is)

-- one more element leaves the others at their places
pub slice_get-push_other : {X : Type 0} (xs : List X) (i : ℕ) (y : X) → (i ≡ length xs → ⊥) → slice_get (xs ++ y ∷ []) i ≡ slice_get xs i
slice_get-push_other [] zero y ne = absurd (ne refl)
slice_get-push_other [] (suc i) y ne = refl
slice_get-push_other (x ∷ xs) zero y ne = refl
slice_get-push_other (x ∷ xs) (suc i) y ne = slice_get-push_other xs i y (λ e. ne (ap suc e))

pub AllByRecursion-read : {X : Type 0} (P : X → Type 0) (xs : List X) (i : ℕ) (d : X) → AllByRecursion P xs → i < length xs → P (get_or xs i d)
AllByRecursion-read P xs i d h lt = AllByRecursion-at P xs i (get_or xs i d) h (slice_get-get_or xs i d lt)

pub drop-past : {X : Type 0} (xs : List X) (i : ℕ) → length xs ≤ i → drop i xs ≡ []
drop-past [] zero le = refl
drop-past [] (suc i) le = refl
drop-past (x ∷ xs) zero le = absurd (omega (arith, le))
drop-past (x ∷ xs) (suc i) le = drop-past xs i (omega (arith, le))

pub AllByRecursion-some : {X : Type 0} (P : X → Type 0) (xs : List X) → AllByRecursion P xs → (i : ℕ) → IfSome (slice_get xs i) P
AllByRecursion-some P [] h i = tt
AllByRecursion-some P (x ∷ xs) h zero = h.0
AllByRecursion-some P (x ∷ xs) h (suc i) = AllByRecursion-some P xs h.1 i

take-suc : {X : Type 0} (xs : List X) (i : ℕ) (d : X) → i < length xs → take (suc i) xs ≡ take i xs ++ get_or xs i d ∷ []
take-suc [] i d lt = absurd (omega arith)
take-suc (x ∷ xs) zero d lt = refl
take-suc {X} (x ∷ xs) (suc i) d lt = ap (λ (rest : List X). x ∷ rest) (take-suc xs i d (omega arith))

pub take-more : {X : Type 0} (xs : List X) (i : ℕ) (d : X) → i < length xs → take (i + 1) xs ≡ take i xs ++ get_or xs i d ∷ []
take-more xs i d lt = rw add-one (take-suc xs i d lt)

pub take-all : {X : Type 0} (xs : List X) (i : ℕ) → length xs ≤ i → take i xs ≡ xs
take-all [] zero le = refl
take-all [] (suc i) le = refl
take-all (x ∷ xs) zero le = absurd (omega (arith, le))
take-all {X} (x ∷ xs) (suc i) le = ap (λ (rest : List X). x ∷ rest) (take-all xs i (omega (arith, le)))

-- what holds of each element at its place, of all
pub AllByRecursion-from : (P : ℕ → Type 0) (xs : List ℕ) → ((q : ℕ) → q < length xs → P (get_or xs q 0)) → AllByRecursion P xs
AllByRecursion-from P [] each = tt
AllByRecursion-from P (x ∷ xs) each = (each 0 (omega arith), AllByRecursion-from P xs (λ q lt. each (suc q) (omega arith)))

pub AllByRecursion-take : {X : Type 0} (P : X → Type 0) (n : ℕ) (xs : List X) → AllByRecursion P xs → AllByRecursion P (take n xs)
AllByRecursion-take P zero xs h = tt
AllByRecursion-take P (suc n) [] h = tt
AllByRecursion-take P (suc n) (x ∷ xs) h = (h.0, AllByRecursion-take P n xs h.1)

pub AllByRecursion-replicate : {X : Type 0} (P : X → Type 0) (n : ℕ) (x : X) → P x → AllByRecursion P (replicate n x)
AllByRecursion-replicate P zero x h = tt
AllByRecursion-replicate P (suc n) x h = (h, AllByRecursion-replicate P n x h)
