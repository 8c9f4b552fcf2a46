-- Functions with another value at two numbers, and at a collective.
use Rattle.std.proofs.Common.{◌≡◌, ℕ, ◌⊎◌, inl, inr, eqb, sym, ap, ◌∙◌, eq-eqb, ne_eqb, false}
use Rattle.std.proofs.lemmas.Bool.{cases_eq, cond-true, cond-false, and_from, and_left, and_right}
use Rattle.coll_kinds.proofs.Puts.{put_same, put_other, put_at}
use Rattle.coll_machine.specs.declared.key.Key.{Key}
use Rattle.coll_machine.specs.Changes.{put2, same_key, put_key}

pub put2_same : {X : Type 0} (f : ℕ → ℕ → X) (a b : ℕ) (x : X) → put2 f a b x a b ≡ x
put2_same {X} f a b x = ap (λ (g : ℕ → X). g b) (put_same f a _) ∙ put_same (f a) b x

pub put2_cases : {X : Type 0} (f : ℕ → ℕ → X) (a b : ℕ) (x : X) (c d : ℕ)
    → ((c ≡ a) × (d ≡ b) × (put2 f a b x c d ≡ x)) ⊎ (((c ≡ a) × (d ≡ b) → ⊥) × (put2 f a b x c d ≡ f c d))
put2_cases {X} f a b x c d = go (cases_eq c a) (cases_eq d b)
  where
    go : (c ≡ a) ⊎ (c ≡ a → ⊥) → (d ≡ b) ⊎ (d ≡ b → ⊥) → ((c ≡ a) × (d ≡ b) × (put2 f a b x c d ≡ x)) ⊎ (((c ≡ a) × (d ≡ b) → ⊥) × (put2 f a b x c d ≡ f c d))
    go (inl e) (inl h) = inl (e, h, ap (λ (g : ℕ → X). g d) (put_at f a _ c e) ∙ put_at (f a) b x d h)
    go (inl e) (inr n) = inr (λ h. n h.1, ap (λ (g : ℕ → X). g d) (put_at f a _ c e) ∙ (put_other (f a) b x d n ∙ ap (λ c. f c d) (sym e)))
    go (inr n) h = inr (λ h. n h.0, ap (λ (g : ℕ → X). g d) (put_other f a _ c n))

key_eq : (a b : Key) → a.comm ≡ b.comm → a.place ≡ b.place → a.start ≡ b.start → a ≡ b
key_eq a b x y z = λ i. record { comm = x i; place = y i; start = z i }

pub put_key_cases : {X : Type 0} (f : Key → X) (k : Key) (x : X) (a : Key) → ((a ≡ k) × (put_key f k x a ≡ x)) ⊎ ((a ≡ k → ⊥) × (put_key f k x a ≡ f a))
put_key_cases {X} f k x a = go (cases_eq a.comm k.comm) (cases_eq a.place k.place) (cases_eq a.start k.start)
  where
    off : (a ≡ k → ⊥) → same_key a k ≡ false → ((a ≡ k) × (put_key f k x a ≡ x)) ⊎ ((a ≡ k → ⊥) × (put_key f k x a ≡ f a))
    off d t = inr (d, cond-false (same_key a k) x (f a) t)

    go : (a.comm ≡ k.comm) ⊎ (a.comm ≡ k.comm → ⊥) → (a.place ≡ k.place) ⊎ (a.place ≡ k.place → ⊥) → (a.start ≡ k.start) ⊎ (a.start ≡ k.start → ⊥)
        → ((a ≡ k) × (put_key f k x a ≡ x)) ⊎ ((a ≡ k → ⊥) × (put_key f k x a ≡ f a))
    go (inl p) (inl q) (inl r) =
        let last = and_from (eqb a.place k.place) (eqb a.start k.start) (eq-eqb a.place k.place q) (eq-eqb a.start k.start r) in
        inl (key_eq a k p q r, cond-true (same_key a k) x (f a) (and_from (eqb a.comm k.comm) _ (eq-eqb a.comm k.comm p) last))
    go (inr p) q r = off (λ e. p (ap (λ (k : Key). k.comm) e)) (and_left (eqb a.comm k.comm) _ (ne_eqb a.comm k.comm p))
    go (inl p) (inr q) r =
        off (λ e. q (ap (λ (k : Key). k.place) e))
        (and_right (eqb a.comm k.comm) _ (and_left (eqb a.place k.place) (eqb a.start k.start) (ne_eqb a.place k.place q)))
    go (inl p) (inl q) (inr r) =
        off (λ e. r (ap (λ (k : Key). k.start) e))
        (and_right (eqb a.comm k.comm) _ (and_right (eqb a.place k.place) (eqb a.start k.start) (ne_eqb a.start k.start r)))
