-- Sums over slots, after a change of one slot.
use Rattle.std.proofs.Common.{◌≡◌, ℕ, zero, suc, ◌+◌, ◌<◌, cond, ap, refl, sym, ◌∙◌, inl, inr, arith, eq-eqb, ne_eqb}
use Rattle.std.proofs.lemmas.Bool.{cases_eq}
use Rattle.coll_kinds.specs.Puts.{put}
use Rattle.coll_arena.specs.Slots.{count, record_in}
use Rattle.coll_arena.specs.Totals.{ChangesTotal, sum_to}

-- sums over places
pub sum_to-same : (f g : ℕ → ℕ) (n : ℕ) → ((i : ℕ) → i < n → f i ≡ g i) → sum_to f n ≡ sum_to g n
sum_to-same f g zero same = refl
sum_to-same f g (suc n) same =
    let here : f n ≡ g n = same n (omega arith) in
    let below : sum_to f n ≡ sum_to g n = sum_to-same f g n (λ i low. same i (omega arith)) in
    omega (arith, here, below)

pub sum_to-put : {A : Type 0} (g : A → ℕ) (f : ℕ → A) (slot : ℕ) (value : A) (n : ℕ) → slot < n
    → sum_to (λ i. g (put f slot value i)) n + g (f slot) ≡ sum_to (λ i. g (f i)) n + g value
sum_to-put g f slot value zero low = absurd (omega (arith, low))
sum_to-put g f slot value (suc n) low =
    elim (cases_eq n slot) [
      | inl e ↦
          let here : g (put f slot value n) ≡ g value = ap g (ap (λ b. cond b value (f n)) (eq-eqb n slot e)) in
          let was : g (f slot) ≡ g (f n) = ap (λ z. g (f z)) (sym e) in
          let below : sum_to (λ i. g (put f slot value i)) n ≡ sum_to (λ i. g (f i)) n =
          sum_to-same _ _ n (λ i lower. ap g (ap (λ b. cond b value (f i)) (ne_eqb i slot (λ z. absurd (omega (arith, z, e, lower)))))) in
          omega (arith, here, was, below)
      | inr ne ↦
          let here : g (put f slot value n) ≡ g (f n) = ap g (ap (λ b. cond b value (f n)) (ne_eqb n slot ne)) in
          let below : sum_to (λ i. g (put f slot value i)) n + g (f slot) ≡ sum_to (λ i. g (f i)) n + g value =
          sum_to-put g f slot value n (omega (arith, low, ne)) in
          omega (arith, here, below)
    ]

pub total-puts : {R : Type 0} → ChangesTotal R
total-puts {R} g a b slot generation weight list found p low =
    ap (λ z. z + g (record_in a slot)) (ap (λ n. sum_to (λ i. g (record_in b i)) n) p.count_is ∙ ap (λ f. sum_to (λ i. g (f i)) (count a)) p.records)
    ∙ sum_to-put g (record_in a) slot found (count a) low
