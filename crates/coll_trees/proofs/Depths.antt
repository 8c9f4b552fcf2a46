-- the depth is enough, and no distance reaches the number of members
use Rattle.std.proofs.Common.{◌≡◌, ℕ, zero, suc, ◌+◌, ◌^◌, ◌<◌, ◌≤◌, ◌⊎◌, inl, inr, Bool, cond, true, false, leb, sym, subst, arith, leb-false}
use Rattle.std.proofs.Common.{leb-true, le-leb, ap, ◌∙◌, ◌-◌}
use Rattle.std.proofs.lemmas.Bool.{cases_eq, cases_Bool, cond-true, cond-false, cond_both, lt-leb}
use Rattle.coll_trees.specs.Depths.{depth_from, depth}

pub depth_enough : (fuel k n : ℕ) → n ≤ 2 ^ (k + fuel) → n ≤ 2 ^ depth_from fuel k n
depth_enough zero k n h = subst (λ e. n ≤ 2 ^ e) (omega arith) h
depth_enough (suc fuel) k n h =
    cond_both (leb n (2 ^ k)) k (depth_from fuel (suc k) n) (λ e. n ≤ 2 ^ e)
    (λ e. leb-true n (2 ^ k) e) (λ e. depth_enough fuel (suc k) n (subst (λ e. n ≤ 2 ^ e) (omega arith) h))

pub depth_short : (fuel k n j : ℕ) → k ≤ j → j < depth_from fuel k n → 2 ^ j < n
depth_short zero k n j low h = absurd (omega arith)
depth_short (suc fuel) k n j low h = go (λ l m. depth_short fuel (suc k) n j l m) (cases_Bool (leb n (2 ^ k))) (cases_eq j k)
  where
    go : (suc k ≤ j → j < depth_from fuel (suc k) n → 2 ^ j < n) → (leb n (2 ^ k) ≡ true) ⊎ (leb n (2 ^ k) ≡ false) → (j ≡ k) ⊎ (j ≡ k → ⊥) → 2 ^ j < n
    go more (inl t) x = let e : depth_from (suc fuel) k n ≡ k = cond-true (leb n (2 ^ k)) k (depth_from fuel (suc k) n) t in absurd (omega arith)
    go more (inr t) (inl x) = subst (λ e. 2 ^ e < n) (sym x) (leb-false n (2 ^ k) t)
    go more (inr t) (inr x) = more (omega arith) (subst (λ d. j < d) (cond-false (leb n (2 ^ k)) k (depth_from fuel (suc k) n) t) h)

-- one step of the search for the depth
pub depth_from-here : (d n : ℕ) → d < 6 → n ≤ 2 ^ d → depth_from (6 - d) d n ≡ d
depth_from-here d n h k =
    ap (λ f. depth_from f d n) (let z : 6 - d ≡ suc (5 - d) = omega arith in z)
    ∙ cond-true (leb n (2 ^ d)) d (depth_from (5 - d) (suc d) n) (le-leb n (2 ^ d) k)

pub depth_from-next : (d n : ℕ) → d < 6 → 2 ^ d < n → depth_from (6 - d) d n ≡ depth_from (6 - (d + 1)) (d + 1) n
depth_from-next d n h k =
    ap (λ f. depth_from f d n) (let z : 6 - d ≡ suc (5 - d) = omega arith in z)
    ∙ (cond-false (leb n (2 ^ d)) d (depth_from (5 - d) (suc d) n) (lt-leb n (2 ^ d) k)
    ∙ ap (λ f. depth_from f (suc d) n) (let z : 5 - d ≡ 6 - (d + 1) = omega arith in z)
    ∙ ap (λ e. depth_from (6 - (d + 1)) e n) (let z : suc d ≡ d + 1 = omega arith in z))

-- the depth reaches all members
pub depth_reaches : (n : ℕ) → n ≤ 64 → n ≤ 2 ^ depth n
unfolding depth
depth_reaches n h = depth_enough 6 0 n h

-- no distance passes 64
pub pow_near : (k : ℕ) → k < 6 → 2 ^ k ≤ 64
pow_near zero h = omega arith
pow_near (suc zero) h = omega arith
pow_near (suc (suc zero)) h = omega arith
pow_near (suc (suc (suc zero))) h = omega arith
pow_near (suc (suc (suc (suc zero)))) h = omega arith
pow_near (suc (suc (suc (suc (suc zero))))) h = omega arith
pow_near (suc (suc (suc (suc (suc (suc k)))))) h = absurd (omega arith)

depth_from-most : (fuel k n : ℕ) → depth_from fuel k n ≤ k + fuel
depth_from-most zero k n = omega arith
depth_from-most (suc fuel) k n = go (leb n (2 ^ k)) (depth_from-most fuel (suc k) n)
  where
    go : (b : Bool) → depth_from fuel (suc k) n ≤ suc k + fuel → cond b k (depth_from fuel (suc k) n) ≤ k + suc fuel
    go true h = omega arith
    go false h = omega arith

pub depth-most : (n : ℕ) → depth n ≤ 6
unfolding depth
depth-most n = depth_from-most 6 0 n
