-- Lists of threads, and how they ended.
use Rattle.std.proofs.Common.{◌≡◌, ℕ, suc, ◌+◌, Bool, true, false, List, [], ◌∷◌, ◌++◌, length, map, refl, sym, ap, subst, ◌∙◌, arith, append_assoc}
use Rattle.std.proofs.Common.{length-append}
use Rattle.std.proofs.lemmas.List.{append-nil, length-map, map-append}
use Rattle.std.specs.Bool.{OnTrue}
use Rattle.coll_shared.specs.RankThreads.{AreEnds}

none_left : {X : Type 0} (xs ys zs : List X) → xs ++ ys ≡ zs → length xs ≡ length zs → xs ≡ zs
none_left xs [] zs e long = sym (append-nil xs) ∙ e
none_left xs (y ∷ ys) zs e long =
    let sum : length zs ≡ length xs + length (y ∷ ys) = ap length (sym e) ∙ length-append xs (y ∷ ys) in
    absurd (omega (arith, sum, long))

-- one more thread was started
pub started_more : {H K : Type 0} (f : H → K) (hs : List H) (h : H) (k : K) (before after all : List K) → f h ≡ k → before ≡ k ∷ after
    → map f hs ++ before ≡ all → map f (hs ++ h ∷ []) ++ after ≡ all
started_more f hs h k before after all is first e =
    ap (λ xs. xs ++ after) (map-append f hs (h ∷ []))
    ∙ (append_assoc (map f hs) (f h ∷ []) after
    ∙ ((λ z. map f hs ++ is z ∷ after) ∙ (ap (λ xs. map f hs ++ xs) (sym first) ∙ e)))

-- all were started
pub started_all : {H K : Type 0} (f : H → K) (hs : List H) (rest all : List K) → map f hs ++ rest ≡ all → length hs ≡ length all
    → map f hs ≡ all
started_all f hs rest all e long = none_left (map f hs) rest all e (length-map hs f ∙ long)

ends_more : {K T : Type 0} (P : K → T → Type 0) (ks : List K) (ts : List T) (k : K) (t : T) → AreEnds P ks ts → P k t
    → AreEnds P (ks ++ k ∷ []) (ts ++ t ∷ [])
ends_more P [] [] k t h p = (p, tt)
ends_more P [] (x ∷ ts) k t h p = absurd h
ends_more P (x ∷ ks) [] k t h p = absurd h
ends_more P (x ∷ ks) (y ∷ ts) k t h p = (h.0, ends_more P ks ts k t h.1 p)

-- these threads were joined, and ended so
pub AreJoined : {K T : Type 0} → (K → T → Type 0) → List K → List K → List T → Type 0
AreJoined {K} P all rest ends = (done : List K) × (done ++ rest ≡ all) × AreEnds P done ends

pub joined_none : {K T : Type 0} (P : K → T → Type 0) (all rest : List K) (ends : List T) → rest ≡ all → ends ≡ [] → AreJoined P all rest ends
unfolding AreJoined
joined_none P all rest ends whole none = ([], whole, subst (AreEnds P []) (sym none) tt)

pub joined_more : {K T : Type 0} (P : K → T → Type 0) (all before after : List K) (was now : List T) (k : K) (t : T)
    → AreJoined P all before was → before ≡ k ∷ after → now ≡ was ++ t ∷ [] → P k t → AreJoined P all after now
unfolding AreJoined
joined_more P all before after was now k t j first pushed p = (
  j.0 ++ k ∷ [],
  append_assoc j.0 (k ∷ []) after ∙ (ap (λ xs. j.0 ++ xs) (sym first) ∙ j.1),
  subst (AreEnds P (j.0 ++ k ∷ [])) (sym pushed) (ends_more P j.0 was k t j.2 p),
)

ends_long : {K T : Type 0} (P : K → T → Type 0) (ks : List K) (ts : List T) → AreEnds P ks ts → length ks ≡ length ts
ends_long P [] [] h = refl
ends_long P [] (t ∷ ts) h = absurd h
ends_long P (k ∷ ks) [] h = absurd h
ends_long P (k ∷ ks) (t ∷ ts) h = ap suc (ends_long P ks ts h.1)

pub joined_all : {K T : Type 0} (P : K → T → Type 0) (all rest : List K) (ends : List T) → AreJoined P all rest ends
    → length ends ≡ length all → AreEnds P all ends
unfolding AreJoined
joined_all P all rest ends j long =
    subst (λ ks. AreEnds P ks ends) (none_left j.0 rest all j.1 (ends_long P j.0 ends j.2 ∙ long)) j.2

ends_map : {H K T : Type 0} (f : H → K) (P : K → T → Type 0) (hs : List H) (ts : List T) → AreEnds (λ h t. P (f h) t) hs ts
    → AreEnds P (map f hs) ts
ends_map f P [] [] h = tt
ends_map f P [] (t ∷ ts) h = absurd h
ends_map f P (x ∷ hs) [] h = absurd h
ends_map f P (x ∷ hs) (t ∷ ts) h = (h.0, ends_map f P hs ts h.1)

-- what the threads promised is what the tasks are, where all were started
pub ends_of_tasks : {H K T : Type 0} (f : H → K) (P : K → T → Type 0) (hs : List H) (ks : List K) (ts : List T) (b all : Bool) → b ≡ true
    → OnTrue b (map f hs ≡ ks) → AreEnds (λ h t. P (f h) t) hs ts → OnTrue all (AreEnds P ks ts)
ends_of_tasks f P hs ks ts b false is e h = tt
ends_of_tasks f P hs ks ts b true is e h =
    let same : map f hs ≡ ks = subst (λ b. OnTrue b (map f hs ≡ ks)) is e in
    subst (λ ks. AreEnds P ks ts) same (ends_map f P hs ts h)

pub none_of_tasks : (P : Type 0) (all : Bool) → all ≡ false → OnTrue all P
none_of_tasks P all is = subst (λ b. OnTrue b P) (sym is) tt

-- what is kept of the ends is what was joined
pub ends_of_parts : {K T : Type 0} (P : K → T → Type 0) (ks : List K) (kept joined : List T) (all started : Bool) → all ≡ started → kept ≡ joined
    → OnTrue started (AreEnds P ks joined) → OnTrue all (AreEnds P ks kept)
ends_of_parts {K} {T} P ks kept joined all started same are h =
    subst (λ (b : Bool). OnTrue b (AreEnds P ks kept)) (sym same) (subst (λ (ts : List T). OnTrue started (AreEnds P ks ts)) (sym are) h)
