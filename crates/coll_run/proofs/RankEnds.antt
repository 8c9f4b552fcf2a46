-- The ends of the ranks' threads are in the order of the ranks.
use Rattle.std.proofs.Common.{◌≡◌, ℕ, List, [], ◌∷◌, map, Bool, true, false, Result, Ok, Err, refl, sym, ap, subst, ◌∙◌}
use Rattle.std.specs.Bool.{OnTrue}
use Rattle.std.specs.List.{range_with_len}
use Rattle.std.specs.Prelude.{IfOk}
use Rattle.coll_shared.specs.Ports.{Holding, opened}
use Rattle.coll_shared.specs.RankThreads.{AreEnds}

same_ranks : {K E : Type 0} (rank : K → ℕ) (got : E → ℕ) (ks : List K) (es : List E) → AreEnds (λ k e. got e ≡ rank k) ks es → map got es ≡ map rank ks
same_ranks rank got [] [] are = refl
same_ranks rank got [] (e ∷ es) are = absurd are
same_ranks rank got (k ∷ ks) [] are = absurd are
same_ranks rank got (k ∷ ks) (e ∷ es) are =
    ap (λ (r : ℕ). r ∷ map got es) are.0 ∙ ap (λ (rs : List ℕ). rank k ∷ rs) (same_ranks rank got ks es are.1)

map_twice : {A B C : Type 0} (f : B → C) (g : A → B) (xs : List A) → map (λ x. f (g x)) xs ≡ map f (map g xs)
map_twice f g [] = refl
map_twice f g (x ∷ xs) = ap (λ ys. f (g x) ∷ ys) (map_twice f g xs)

on_true : {P Q : Type 0} (b : Bool) → (P → Q) → OnTrue b P → OnTrue b Q
on_true true f p = f p
on_true false f p = tt

-- of tasks with a port each
pub ranks_got : {K E X F : Type 0} (started : X → Bool) (ends : X → List E) (got : E → ℕ) (port : K → Holding) (ks : List K) (ports : List Holding)
    (r : Result X F) → map port ks ≡ ports → IfOk r (λ x. OnTrue (started x) (AreEnds (λ k e. got e ≡ (port k).rank) ks (ends x)))
    → IfOk r (λ x. OnTrue (started x) (map got (ends x) ≡ map (λ (p : Holding). p.rank) ports))
ranks_got started ends got port ks ports (Ok x) is are =
    on_true (started x)
    (λ all. same_ranks (λ k. (port k).rank) got ks (ends x) all ∙ (map_twice (λ (p : Holding). p.rank) port ks ∙ ap (map (λ (p : Holding). p.rank)) is))
    are
ranks_got started ends got port ks ports (Err e) is are = tt

ranks_opened : (groups : List (List ℕ)) (xs : List ℕ) → map (λ (p : Holding). p.rank) (map (opened groups) xs) ≡ xs
ranks_opened groups [] = refl
ranks_opened groups (x ∷ xs) = ap (λ ys. x ∷ ys) (ranks_opened groups xs)

-- those of the ports of an engine that was just opened are all ranks
pub all_ranks : (started : Bool) (got : List ℕ) (groups : List (List ℕ)) (n m : ℕ) (ports : List Holding)
    → OnTrue started (got ≡ map (λ (p : Holding). p.rank) ports) → ports ≡ map (opened groups) (range_with_len 0 n) → n ≡ m
    → OnTrue started (got ≡ range_with_len 0 m)
all_ranks started got groups n m ports are opened_are is =
    on_true started
    (λ same. same ∙ (ap (map (λ (p : Holding). p.rank)) opened_are ∙ (ranks_opened groups (range_with_len 0 n) ∙ ap (range_with_len 0) is)))
    are
