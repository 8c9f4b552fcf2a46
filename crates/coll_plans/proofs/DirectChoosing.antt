-- one step of a loop over chosen actions: what is pushed leaves what remains
use Rattle.std.proofs.Common.{◌≡◌, ℕ, suc, ◌+◌, ◌-◌, ◌<◌, Bool, true, false, List, [], ◌∷◌, ◌++◌, sym, ap, ◌∙◌, arith, append_assoc}
use Rattle.std.proofs.lemmas.Bool.{cond-true, cond-false}
use Rattle.coll_sched.specs.declared.action.Action.{Action}
use Rattle.coll_plans.specs.DirectExchange.{chosen}

module _ (pick : ℕ → Bool) (act : ℕ → Action) (k n : ℕ) (so_far all : List Action) (low : k < n) (so : so_far ++ chosen pick act k (n - k) ≡ all) where
  next : (now : List Action) → now ++ chosen pick act (suc k) (n - (k + 1)) ≡ all → now ++ chosen pick act (k + 1) (n - (k + 1)) ≡ all
  next now e = ap (λ i. now ++ chosen pick act i (n - (k + 1))) (let z : k + 1 ≡ suc k = omega arith in z) ∙ e

  split : so_far ++ chosen pick act k (suc (n - (k + 1))) ≡ all
  split = ap (λ c. so_far ++ chosen pick act k c) (let z : suc (n - (k + 1)) ≡ n - k = omega arith in z) ∙ so

  pub step_taken : (now : List Action) → pick k ≡ true → now ≡ so_far ++ act k ∷ [] → now ++ chosen pick act (k + 1) (n - (k + 1)) ≡ all
  step_taken now is pushed = next now
      (ap (λ xs. xs ++ chosen pick act (suc k) (n - (k + 1))) pushed
      ∙ (append_assoc so_far (act k ∷ []) (chosen pick act (suc k) (n - (k + 1)))
      ∙ (ap (λ xs. so_far ++ xs) (sym (cond-true (pick k) (act k ∷ chosen pick act (suc k) (n - (k + 1))) (chosen pick act (suc k) (n - (k + 1))) is))
      ∙ split)))

  pub step_passed : (now : List Action) → pick k ≡ false → now ≡ so_far → now ++ chosen pick act (k + 1) (n - (k + 1)) ≡ all
  step_passed now is same = next now
      (ap (λ xs. xs ++ chosen pick act (suc k) (n - (k + 1))) same
      ∙ (ap (λ xs. so_far ++ xs) (sym (cond-false (pick k) (act k ∷ chosen pick act (suc k) (n - (k + 1))) (chosen pick act (suc k) (n - (k + 1))) is))
      ∙ split))
