-- The sum of the live slots' weights.
use Rattle.std.proofs.Common.{◌≡◌, ℕ, ◌+◌, ◌*◌, ◌<◌, ◌≤◌, ◌^◌, ◌&&◌, List, length, map, sym, ap, subst, ◌∙◌, inl, inr, cond, ltb, lt-ltb, le-ltb}
use Rattle.std.proofs.Common.{get_or, set, sum, arith, add-zero}
use Rattle.std.proofs.lemmas.Bool.{cases_lt}
use Rattle.std.proofs.lemmas.List.{ext_get_or, get_or_default, length-map}
use Rattle.std.proofs.lemmas.List.FromFn.{get_or-map-range_with_len, length-range_with_len}
use Rattle.std.proofs.lemmas.List.Sums.{sum_by-le, sum_by-set}
use Rattle.std.specs.List.{range_with_len}
use Rattle.coll_kinds.specs.Limits.{max_lent}
use Rattle.coll_arena.specs.Changes.{retired, reweighed, taken}
use Rattle.coll_arena.specs.Slots.{Slots, count, home, lent, lent_by, weight_of}
use Rattle.coll_arena.specs.Sound.{IsSound}

-- another weight in one slot
pub sum-set : (ws : List ℕ) (slot weight : ℕ) → slot < length ws → sum (set ws slot weight) + get_or ws slot 0 ≡ sum ws + weight
sum-set ws slot weight low = sum_by-set (λ x. x) ws slot weight 0 low

module _ {R : Type 0} where
  -- a slot that isn't live weighs nothing
  pub lent_by-weight : (a : Slots R) → IsSound a → (slot : ℕ) → slot < count a → lent_by a slot ≡ weight_of a slot
  lent_by-weight a s slot low =
      ap (λ b. cond (b && ltb 1 (home a slot)) (weight_of a slot) 0) (lt-ltb slot (count a) low)
      ∙ elim (cases_lt 1 (home a slot)) [
        | inl live ↦ ap (λ b. cond b (weight_of a slot) 0) (lt-ltb 1 (home a slot) live)
        | inr none ↦ ap (λ b. cond b (weight_of a slot) 0) (le-ltb 1 (home a slot) none) ∙ sym ((s.slots slot low).weightless none)
      ]

  pub lent-sum : (a : Slots R) → IsSound a → lent a ≡ sum a.weights
  lent-sum a s =
      let len : length (map (lent_by a) (range_with_len 0 (count a))) ≡ count a =
      length-map (range_with_len 0 (count a)) (lent_by a) ∙ length-range_with_len 0 (count a) in
      ap sum (ext_get_or 0 (map (lent_by a) (range_with_len 0 (count a))) a.weights
      (len ∙ sym s.weights_len)
      (λ i low.
      let here : i < count a = subst (λ z. i < z) len low in
      get_or-map-range_with_len (lent_by a) 0 (count a) i i 0 here (omega arith) ∙ lent_by-weight a s i here))

  -- the sum fits
  pub lent-fits : (a : Slots R) → IsSound a → sum a.weights < 2 ^ 64
  lent-fits a s =
      let most : sum a.weights ≤ length a.weights * max_lent =
      sum_by-le (λ x. x) max_lent a.weights
      (λ k d low. subst (λ z. z ≤ max_lent) (get_or_default a.weights k 0 d low) (s.slots k (subst (λ z. k < z) s.weights_len low)).light) in
      omega (arith, s.weights_len, s.count_fits)

  -- the sum after each call
  pub lent-taken : (a : Slots R) (slot : ℕ) (rec : R) (weight list : ℕ) → IsSound a → IsSound (taken a slot rec weight list)
      → slot < count a → home a slot ≡ 0 → lent (taken a slot rec weight list) ≡ lent a + weight
  lent-taken a slot rec weight list s t low free =
      let none : weight_of a slot ≡ 0 = (s.slots slot low).weightless (omega (arith, free)) in
      let step : sum (set a.weights slot weight) + weight_of a slot ≡ sum a.weights + weight = sum-set a.weights slot weight (omega (arith, s.weights_len)) in
      let before : lent a ≡ sum a.weights = lent-sum a s in
      lent-sum (taken a slot rec weight list) t ∙ omega (arith, none, step, before)

  pub lent-reweighed : (a : Slots R) (slot weight : ℕ) → IsSound a → IsSound (reweighed a slot weight) → slot < count a
      → lent (reweighed a slot weight) + weight_of a slot ≡ lent a + weight
  lent-reweighed a slot weight s t low =
      let step : sum (set a.weights slot weight) + weight_of a slot ≡ sum a.weights + weight = sum-set a.weights slot weight (omega (arith, s.weights_len)) in
      ap (λ z. z + weight_of a slot) (lent-sum (reweighed a slot weight) t) ∙ step ∙ ap (λ z. z + weight) (sym (lent-sum a s))

  pub lent-retired : (a : Slots R) (slot : ℕ) → IsSound a → IsSound (retired a slot) → slot < count a → lent (retired a slot) + weight_of a slot ≡ lent a
  lent-retired a slot s t low =
      let step : sum (set a.weights slot 0) + weight_of a slot ≡ sum a.weights + 0 = sum-set a.weights slot 0 (omega (arith, s.weights_len)) in
      ap (λ z. z + weight_of a slot) (lent-sum (retired a slot) t) ∙ step ∙ add-zero _ ∙ sym (lent-sum a s)

  pub lent-same : (a b : Slots R) → IsSound a → IsSound b → b.weights ≡ a.weights → lent b ≡ lent a
  lent-same a b s t same = lent-sum b t ∙ ap sum same ∙ sym (lent-sum a s)

  -- the kept number fits
  pub kept-fits : (a : Slots R) → IsSound a → lent a < 2 ^ 64
  kept-fits a s = subst (λ z. z < 2 ^ 64) (sym (lent-sum a s)) (lent-fits a s)
