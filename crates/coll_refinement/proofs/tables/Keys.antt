-- Functions of keys.
use Rattle.std.proofs.Common.{◌≡◌, ℕ, ◌≢◌, ◌⊎◌, inl, inr, refl, sym, ap, ◌∙◌}
use Rattle.std.proofs.lemmas.Bool.{cases_eq}
use Rattle.coll_machine.specs.declared.key.Key.{Key}
use Rattle.coll_kinds.specs.Puts.{put}
use Rattle.coll_machine.specs.Changes.{put_key, put_in}
use Rattle.coll_kinds.proofs.Puts.{put_at, put_other}
use Rattle.coll_machine.proofs.Puts.{put_key_cases}

pub split_key : (a b : Key) → (a ≡ b) ⊎ (a ≢ b)
split_key a b = go (put_key_cases {X = ℕ} (λ (k : Key). 0) b 0 a)
  where
    go : {P Q : Type 0} → ((a ≡ b) × P) ⊎ ((a ≡ b → ⊥) × Q) → (a ≡ b) ⊎ (a ≢ b)
    go (inl h) = inl h.0
    go (inr h) = inr h.0

pub at_key : {X : Type 0} (f : Key → X) (k : Key) (x : X) (a : Key) → a ≡ k → put_key f k x a ≡ x
at_key {X} f k x a e = go (put_key_cases f k x a)
  where
    go : ((a ≡ k) × (put_key f k x a ≡ x)) ⊎ ((a ≡ k → ⊥) × (put_key f k x a ≡ f a)) → put_key f k x a ≡ x
    go (inl h) = h.1
    go (inr h) = absurd (h.0 e)

pub off_key : {X : Type 0} (f : Key → X) (k : Key) (x : X) (a : Key) → a ≢ k → put_key f k x a ≡ f a
off_key {X} f k x a d = go (put_key_cases f k x a)
  where
    go : ((a ≡ k) × (put_key f k x a ≡ x)) ⊎ ((a ≡ k → ⊥) × (put_key f k x a ≡ f a)) → put_key f k x a ≡ f a
    go (inl h) = absurd (d h.0)
    go (inr h) = h.1

-- at the key and the member, or elsewhere
pub in_cases : {X : Type 0} (f : Key → ℕ → X) (k : Key) (m : ℕ) (x : X) (a : Key) (b : ℕ)
    → ((a ≡ k) × (b ≡ m) × (put_in f k m x a b ≡ x)) ⊎ (((a ≡ k) → (b ≡ m) → ⊥) × (put_in f k m x a b ≡ f a b))
in_cases {X} f k m x a b = go (split_key a k) (cases_eq b m)
  where
    go : (a ≡ k) ⊎ (a ≢ k) → (b ≡ m) ⊎ (b ≡ m → ⊥) → ((a ≡ k) × (b ≡ m) × (put_in f k m x a b ≡ x)) ⊎ (((a ≡ k) → (b ≡ m) → ⊥) × (put_in f k m x a b ≡ f a b))
    go (inl e) (inl h) = inl (e, h, ap (λ (g : ℕ → X). g b) (at_key f k (put (f k) m x) a e) ∙ put_at (f k) m x b h)
    go (inl e) (inr n) = inr (λ _ h. n h, ap (λ (g : ℕ → X). g b) (at_key f k (put (f k) m x) a e) ∙ (put_other (f k) m x b n ∙ ap (λ c. f c b) (sym e)))
    go (inr n) h = inr (λ e _. n e, ap (λ (g : ℕ → X). g b) (off_key f k (put (f k) m x) a n))

pub in_at : {X : Type 0} (f : Key → ℕ → X) (k : Key) (m : ℕ) (x : X) → put_in f k m x k m ≡ x
in_at {X} f k m x = ap (λ (g : ℕ → X). g m) (at_key f k (put (f k) m x) k refl) ∙ put_at (f k) m x m refl

pub in_off : {X : Type 0} (f : Key → ℕ → X) (k : Key) (m : ℕ) (x : X) (a : Key) (b : ℕ) → ((a ≡ k) → (b ≡ m) → ⊥) → put_in f k m x a b ≡ f a b
in_off {X} f k m x a b d = go (in_cases f k m x a b)
  where
    go : ((a ≡ k) × (b ≡ m) × (put_in f k m x a b ≡ x)) ⊎ (((a ≡ k) → (b ≡ m) → ⊥) × (put_in f k m x a b ≡ f a b)) → put_in f k m x a b ≡ f a b
    go (inl h) = absurd (d h.0 h.1)
    go (inr h) = h.1
