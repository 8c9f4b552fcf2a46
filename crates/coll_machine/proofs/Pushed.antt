-- Lists with one more element.
use Rattle.std.proofs.Common.{◌≡◌, ℕ, zero, suc, ◌⊎◌, inl, inr, List, [], ◌∷◌, ◌++◌, length, Some, refl, ap}
use Rattle.std.specs.Prelude.{slice_get}
use Rattle.std.proofs.lemmas.Option.{none-some, same_Some}

pub get_pushed : {X : Type 0} (xs : List X) (x : X) → slice_get (xs ++ x ∷ []) (length xs) ≡ Some x
get_pushed [] x = refl
get_pushed (y ∷ xs) x = get_pushed xs x

pub get_front : {X : Type 0} (xs : List X) (x : X) (p : ℕ) (s : X) → slice_get xs p ≡ Some s → slice_get (xs ++ x ∷ []) p ≡ Some s
get_front [] x p s e = absurd (none-some s e)
get_front (y ∷ xs) x zero s e = e
get_front (y ∷ xs) x (suc p) s e = get_front xs x p s e

pub get_either : {X : Type 0} (xs : List X) (x : X) (p : ℕ) (s : X) → slice_get (xs ++ x ∷ []) p ≡ Some s
    → (slice_get xs p ≡ Some s) ⊎ ((p ≡ length xs) × (x ≡ s))
get_either [] x zero s e = inr (refl, same_Some x s e)
get_either [] x (suc p) s e = absurd (none-some s e)
get_either (y ∷ xs) x zero s e = inl e
get_either (y ∷ xs) x (suc p) s e = go (get_either xs x p s e)
  where
    go : (slice_get xs p ≡ Some s) ⊎ ((p ≡ length xs) × (x ≡ s)) → (slice_get xs p ≡ Some s) ⊎ ((suc p ≡ suc (length xs)) × (x ≡ s))
    go (inl h) = inl h
    go (inr h) = inr (ap suc h.0, h.1)

pub length_pushed : {X : Type 0} (xs : List X) (x : X) → length (xs ++ x ∷ []) ≡ suc (length xs)
length_pushed [] x = refl
length_pushed (y ∷ xs) x = ap suc (length_pushed xs x)
