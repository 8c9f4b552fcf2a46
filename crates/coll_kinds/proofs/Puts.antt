-- A function with another value at one number.
use Rattle.std.proofs.Common.{◌≡◌, ℕ, ◌⊎◌, inl, inr, eqb, cond, Bool, refl, eq-eqb, ne_eqb, true, false}
use Rattle.std.proofs.lemmas.Bool.{cases_eq, cond-true, cond-false}
use Rattle.coll_kinds.specs.Puts.{put}

pub put_same : {X : Type 0} (f : ℕ → X) (k : ℕ) (x : X) → put f k x k ≡ x
put_same f k x = cond-true (eqb k k) x (f k) (eq-eqb k k refl)

pub put_other : {X : Type 0} (f : ℕ → X) (k : ℕ) (x : X) (i : ℕ) → (i ≡ k → ⊥) → put f k x i ≡ f i
put_other f k x i d = cond-false (eqb i k) x (f i) (ne_eqb i k d)

pub put_at : {X : Type 0} (f : ℕ → X) (k : ℕ) (x : X) (i : ℕ) → i ≡ k → put f k x i ≡ x
put_at f k x i e = cond-true (eqb i k) x (f i) (eq-eqb i k e)

pub put_cases : {X : Type 0} (f : ℕ → X) (k : ℕ) (x : X) (i : ℕ) → ((i ≡ k) × (put f k x i ≡ x)) ⊎ ((i ≡ k → ⊥) × (put f k x i ≡ f i))
put_cases f k x i = go (cases_eq i k)
  where
    go : (i ≡ k) ⊎ (i ≡ k → ⊥) → ((i ≡ k) × (put f k x i ≡ x)) ⊎ ((i ≡ k → ⊥) × (put f k x i ≡ f i))
    go (inl e) = inl (e, put_at f k x i e)
    go (inr d) = inr (d, put_other f k x i d)

-- of two writes at one place the later stands
pub put_put : {X : Type 0} (f : ℕ → X) (k : ℕ) (a b : X) → put (put f k a) k b ≡ put f k b
put_put {X} f k a b = λ z i. at i (eqb i k) z
  where
    at : (i : ℕ) (t : Bool) → cond t b (cond t a (f i)) ≡ cond t b (f i)
    at i true = refl
    at i false = refl
