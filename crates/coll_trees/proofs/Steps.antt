-- one step of a builder's loop: what is pushed leaves what remains
use Rattle.std.proofs.Common.{◌≡◌, ℕ, suc, ◌+◌, ◌-◌, ◌<◌, List, ◌++◌, sym, ap, ◌∙◌, arith, append_assoc}
use Rattle.coll_sched.specs.declared.action.Action.{Action}

-- F k c are the rounds of c steps, the first being k, and P k are those of step k
pub one_step : (F : ℕ → ℕ → List (List Action)) (P : ℕ → List (List Action)) → ((k c : ℕ) → F k (suc c) ≡ P k ++ F (suc k) c)
    → (k d : ℕ) (so_far now all : List (List Action)) → k < d → so_far ++ F k (d - k) ≡ all → now ≡ so_far ++ P k → now ++ F (k + 1) (d - (k + 1)) ≡ all
one_step F P more k d so_far now all low e pushed =
    let a : d - k ≡ suc (d - (k + 1)) = omega arith in
    let b : k + 1 ≡ suc k = omega arith in
    ap (λ xs. xs ++ F (k + 1) (d - (k + 1))) pushed
    ∙ (append_assoc so_far (P k) (F (k + 1) (d - (k + 1)))
    ∙ (ap (λ xs. so_far ++ xs) (ap (λ i. P k ++ F i (d - (k + 1))) b ∙ (sym (more k (d - (k + 1))) ∙ ap (F k) (sym a)))
    ∙ e))
