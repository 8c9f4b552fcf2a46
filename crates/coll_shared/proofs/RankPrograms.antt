-- Lists of programs, and what they gave.
use Rattle.std.proofs.Common.{Bool, true, inl, inr, ◌⊎◌, ◌≡◌, ℕ, ◌+◌, List, [], ◌∷◌, length, map, Option, Some, None, refl, sym, ap, subst, ◌∙◌}
use Rattle.std.specs.Bool.{OnTrue}
use Rattle.std.specs.Prelude.{All, Contains, IfOk, IfSome, Result, Ok, Err}
use Rattle.std.proofs.lemmas.List.Elements.{All-contains}
use Rattle.coll_kinds.specs.declared.refusal.Refusal.{Refusal}
use Rattle.coll_kinds.specs.declared.refusal.Refusal.TheVariants.{NoMemory}
use Rattle.coll_traced.specs.Awaiting.{IsSetback}
use Rattle.std.specs.List.{range_with_len}
use Rattle.std.proofs.lemmas.List.{length-map}
use Rattle.std.proofs.lemmas.List.FromFn.{length-range_with_len}
use Rattle.coll_shared.specs.Ports.{Holding, opened}
use Rattle.coll_shared.specs.RankPrograms.{AreGiven}
use Rattle.coll_shared.specs.RankThreads.{AreEnds}

same_head : {X : Type 0} (x y : X) (xs ys : List X) → x ∷ xs ≡ y ∷ ys → x ≡ y
same_head x y xs ys e = ap (λ zs. elim zs as (λ _. _) [ [] ↦ x | z ∷ _ ↦ z ]) e

same_tail : {X : Type 0} (x y : X) (xs ys : List X) → x ∷ xs ≡ y ∷ ys → xs ≡ ys
same_tail x y xs ys e = ap (λ zs. elim zs as (λ _. _) [ [] ↦ xs | _ ∷ zs ↦ zs ]) e

-- of ends with a value each, in the order of the ranks
pub given : {K E P T : Type 0} (G : P → ℕ → T → Type 0) (program : K → P) (rank : K → ℕ) (value : E → Option T) (first : ℕ) (ks : List K)
    (es : List E) (vs : List T) → AreEnds (λ k e. IfSome (value e) (G (program k) (rank k))) ks es
    → map rank ks ≡ range_with_len first (length ks) → map Some vs ≡ map value es → AreGiven G first (map program ks) vs
given G program rank value first [] [] [] h ranks values = tt
given G program rank value first [] [] (v ∷ vs) h ranks values = absurd cc
given G program rank value first [] (e ∷ es) vs h ranks values = absurd h
given G program rank value first (k ∷ ks) [] vs h ranks values = absurd h
given G program rank value first (k ∷ ks) (e ∷ es) [] h ranks values = absurd cc
given G program rank value first (k ∷ ks) (e ∷ es) (v ∷ vs) h ranks values =
    let is : Some v ≡ value e = same_head (Some v) (value e) (map Some vs) (map value es) values in
    let at : rank k ≡ first = same_head (rank k) first (map rank ks) (range_with_len (first + 1) (length ks)) ranks in
    let there : G (program k) (rank k) v = subst (λ o. IfSome o (G (program k) (rank k))) (sym is) h.0 in (
      subst (λ r. G (program k) r v) at there,
      given G program rank value (first + 1) ks es vs h.1
          (same_tail (rank k) first (map rank ks) (range_with_len (first + 1) (length ks)) ranks)
          (same_tail (Some v) (value e) (map Some vs) (map value es) values),
    )

map_twice : {A B C : Type 0} (f : B → C) (g : A → B) (xs : List A) → map f (map g xs) ≡ map (λ x. f (g x)) xs
map_twice f g [] = refl
map_twice f g (x ∷ xs) = ap (λ ys. f (g x) ∷ ys) (map_twice f g xs)

ranks_opened : (groups : List (List ℕ)) (xs : List ℕ) → map (λ (p : Holding). p.rank) (map (opened groups) xs) ≡ xs
ranks_opened groups [] = refl
ranks_opened groups (x ∷ xs) = ap (λ ys. x ∷ ys) (ranks_opened groups xs)

-- the ports of an engine that was just opened are in the order of their ranks
pub ranks_of : {K : Type 0} (port : K → Holding) (groups : List (List ℕ)) (n : ℕ) (ks : List K) (ports : List Holding) → map port ks ≡ ports
    → ports ≡ map (opened groups) (range_with_len 0 n) → map (λ k. (port k).rank) ks ≡ range_with_len 0 (length ks)
ranks_of port groups n ks ports is opened_are =
    let all : map port ks ≡ map (opened groups) (range_with_len 0 n) = is ∙ opened_are in
    let long : length ks ≡ n =
    sym (length-map ks port) ∙ (ap length all ∙ (length-map (range_with_len 0 n) (opened groups) ∙ length-range_with_len 0 n)) in
    sym (map_twice (λ (p : Holding). p.rank) port ks)
    ∙ (ap (map (λ (p : Holding). p.rank)) all
    ∙ (ranks_opened groups (range_with_len 0 n) ∙ ap (λ m. range_with_len 0 m) (sym long)))

pub ports_long : (groups : List (List ℕ)) (n : ℕ) (ports : List Holding) → ports ≡ map (opened groups) (range_with_len 0 n)
    → length ports ≡ n
ports_long groups n ports are = ap length are ∙ (length-map (range_with_len 0 n) (opened groups) ∙ length-range_with_len 0 n)

-- what was collected of the ends
pub given_ok : {K E P T X F : Type 0} (G : P → ℕ → T → Type 0) (program : K → P) (rank : K → ℕ) (value : E → Option T) (values : X → List T)
    (ks : List K) (es : List E) (ps : List P) (r : Result X F) → AreEnds (λ k e. IfSome (value e) (G (program k) (rank k))) ks es
    → map rank ks ≡ range_with_len 0 (length ks) → map program ks ≡ ps → IfOk r (λ x. map Some (values x) ≡ map value es)
    → IfOk r (λ x. AreGiven G 0 ps (values x))
given_ok G program rank value values ks es ps (Ok x) h ranks programs told =
    subst (λ ps. AreGiven G 0 ps (values x)) programs (given G program rank value 0 ks es (values x) h ranks told)
given_ok G program rank value values ks es ps (Err why) h ranks programs told = tt

-- the ends of the tasks, where all threads were started
pub ended : {K E : Type 0} (P : K → E → Type 0) (ks : List K) (rs es : List E) (b : Bool) → OnTrue b (AreEnds P ks rs) → b ≡ true
    → es ≡ rs → AreEnds P ks es
ended P ks rs es b h is same =
    let all : AreEnds P ks rs = subst (λ b. OnTrue b (AreEnds P ks rs)) is h in
    subst (λ es. AreEnds P ks es) (sym same) all

-- why there are no ends
pub set_back : (None' : Type 0) (workers : List (Option Refusal)) (why : Refusal) → All (λ end. IfSome end IsSetback) workers
    → (None' × (why ≡ NoMemory)) ⊎ Contains workers (Some why) → IsSetback why
set_back None' workers why all (inl none) = inl none.1
set_back None' workers why all (inr there) = All-contains (λ end. IfSome end IsSetback) workers (Some why) all there
