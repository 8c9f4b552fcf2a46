-- members counted round, from the last on to member 0
use Rattle.std.proofs.Common.{◌≡◌, ℕ, ◌+◌, ◌-◌, ◌%◌, ◌<◌, ◌≤◌, ◌⊎◌, inl, inr, sym, ap, ◌∙◌, arith, mod-eq_of_lt}
use Rattle.std.proofs.lemmas.Bool.{cases_lt}
use Rattle.std.proofs.Math.Nat.{add-mod_left, add-mod_right, mod-add-mod}

-- x modulo n, for x below 2 n
pub data Wraps (n x : ℕ) : Type 0 where
  stays : x < n → x % n ≡ x → Wraps n x
  wraps : n ≤ x → x % n + n ≡ x → Wraps n x

pub wraps_at : (n x : ℕ) → x < n + n → Wraps n x
wraps_at n x h = go (cases_lt x n)
  where
    go : (x < n) ⊎ (n ≤ x) → Wraps n x
    go (inl l) = stays l (mod-eq_of_lt l)
    go (inr l) =
        let e : (x - n + n) % n ≡ (x - n) % n = add-mod_right (x - n) n in
        let d : x - n + n ≡ x = omega arith in
        let s : (x - n) % n ≡ x - n = mod-eq_of_lt (omega arith) in
        let t : x % n ≡ x - n = ap (λ y. y % n) (sym d) ∙ (e ∙ s) in
        wraps l (omega arith)

-- r receives at distance s of the member that sends to r at distance s
pub meets : (n r p s : ℕ) → r < n → p < n → s < n → (r + (n - s)) % n ≡ p → (p + s) % n ≡ r
meets n r p s hr hp hs e = go (wraps_at n (r + (n - s)) (omega arith)) (wraps_at n (p + s) (omega arith))
  where
    go : Wraps n (r + (n - s)) → Wraps n (p + s) → (p + s) % n ≡ r
    go (stays l x) (stays m y) = omega arith
    go (stays l x) (wraps m y) = omega arith
    go (wraps l x) (stays m y) = omega arith
    go (wraps l x) (wraps m y) = omega arith

pub meets_back : (n r p s : ℕ) → r < n → p < n → s < n → (p + s) % n ≡ r → (r + (n - s)) % n ≡ p
meets_back n r p s hr hp hs e = go (wraps_at n (r + (n - s)) (omega arith)) (wraps_at n (p + s) (omega arith))
  where
    go : Wraps n (r + (n - s)) → Wraps n (p + s) → (r + (n - s)) % n ≡ p
    go (stays l x) (stays m y) = omega arith
    go (stays l x) (wraps m y) = omega arith
    go (wraps l x) (stays m y) = omega arith
    go (wraps l x) (wraps m y) = omega arith

-- from r a step of s and the rest of i, or i at once
pub two_steps : (n r s i : ℕ) → s ≤ i → ((r + s) % n + (i - s)) % n ≡ (r + i) % n
two_steps n r s i h = mod-add-mod (r + s) n (i - s) ∙ ap (λ x. x % n) (let z : r + s + (i - s) ≡ r + i = omega arith in z)

-- from r on past the last member to k
pub past_last : (n r k : ℕ) → r < n → k < n → (r + (n - r + k)) % n ≡ k
past_last n r k hr hk = ap (λ x. x % n) (let z : r + (n - r + k) ≡ n + k = omega arith in z) ∙ (add-mod_left n k ∙ mod-eq_of_lt hk)

-- and to k without passing the last
pub not_past : (n r k : ℕ) → r ≤ k → k < n → (r + (k - r)) % n ≡ k
not_past n r k h hk = ap (λ x. x % n) (let z : r + (k - r) ≡ k = omega arith in z) ∙ mod-eq_of_lt hk
