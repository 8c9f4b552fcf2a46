-- What loops over a list keep, element by element.
use Rattle.std.proofs.Common.{◌≡◌, ℕ, ◌+◌, ◌-◌, ◌<◌, List, [], ◌∷◌, ◌++◌, map, drop, get_or, length, refl, ap, sym, ◌∙◌, append_assoc, arith}
use Rattle.std.specs.Prelude.{flat_map, filter_map, sum, Option, Some, None}
use Rattle.std.specs.Prelude.{Vec}
use Rattle.std.specs.Global.{Global}
use Rattle.std.specs.List.{cons_option, enumerate_from, fold, range_with_len}
use Rattle.std.proofs.lemmas.List.{map-append}
use Rattle.std.proofs.lemmas.List.Sums.{sum_by-cons}
use Rattle.coll_script.proofs.Loops.{drop-at, map_range-more}
use Rattle.std.proofs.lemmas.List.Concat.{flat_map-cons}

-- a list that grows by what f makes of the next element
pub flat_map-more : {X A : Type 0} (f : X → List A) (xs : List X) (k : ℕ) (x : X) (out total : List A)
    → drop k xs ≡ x ∷ drop (k + 1) xs
    → out ++ flat_map f (drop k xs) ≡ total
    → (out ++ f x) ++ flat_map f (drop (k + 1) xs) ≡ total
flat_map-more {X} {A} f xs k x out total front so_far =
    append_assoc out (f x) (flat_map f (drop (k + 1) xs))
    ∙ ap (λ (rest : List A). out ++ rest) (sym (flat_map-cons f x (drop (k + 1) xs)))
    ∙ ap (λ (rest : List X). out ++ flat_map f rest) (sym front) ∙ so_far

-- a list that grows by what f makes of the next element, if anything
pub filter_map-more : {X A : Type 0} (f : X → Option A) (xs : List X) (k : ℕ) (x : X) (made : Option A) (out total : List A)
    → drop k xs ≡ x ∷ drop (k + 1) xs
    → made ≡ f x
    → out ++ filter_map f (drop k xs) ≡ total
    → (out ++ cons_option made []) ++ filter_map f (drop (k + 1) xs) ≡ total
filter_map-more {X} {A} f xs k x made out total front is so_far =
    append_assoc out (cons_option made []) (filter_map f (drop (k + 1) xs))
    ∙ ap (λ (rest : List A). out ++ rest) (one made)
    ∙ ap (λ (o : Option A). out ++ cons_option o (filter_map f (drop (k + 1) xs))) is
    ∙ ap (λ (rest : List X). out ++ filter_map f rest) (sym front) ∙ so_far
  where
    one : (o : Option A) → cons_option o [] ++ filter_map f (drop (k + 1) xs) ≡ cons_option o (filter_map f (drop (k + 1) xs))
    one None = refl
    one (Some a) = refl

-- a copy that grows by the next element
pub append-more : {X : Type 0} (xs : List X) (k : ℕ) (x : X) (out total : List X)
    → drop k xs ≡ x ∷ drop (k + 1) xs
    → out ++ drop k xs ≡ total
    → (out ++ x ∷ []) ++ drop (k + 1) xs ≡ total
append-more {X} xs k x out total front so_far =
    append_assoc out (x ∷ []) (drop (k + 1) xs) ∙ ap (λ (rest : List X). out ++ rest) (sym front) ∙ so_far

-- lists of lists that grow by what f makes of the next number
pub rows-more : {X : Type 0} (f : ℕ → List X) (end k : ℕ) (all : List (Vec X Global)) (own : Vec X Global) (total : List (List X))
    → k < end
    → own.items ≡ f k
    → map (λ (v : Vec X Global). v.items) all ++ map f (range_with_len k (end - k)) ≡ total
    → map (λ (v : Vec X Global). v.items) (all ++ own ∷ []) ++ map f (range_with_len (k + 1) (end - (k + 1))) ≡ total
rows-more {X} f end k all own total lt made so_far =
    rw map-append (map_range-more f end k (map (λ (v : Vec X Global). v.items) all) total own.items lt made so_far)

-- a sum that grows by the next number
pub sum-more : (xs : List ℕ) (k x now total : ℕ)
    → drop k xs ≡ x ∷ drop (k + 1) xs
    → now + sum (drop k xs) ≡ total
    → now + x + sum (drop (k + 1) xs) ≡ total
sum-more xs k x now total front so_far =
    let cons : sum (x ∷ drop (k + 1) xs) ≡ x + sum (drop (k + 1) xs) = sum_by-cons (λ n. n) x (drop (k + 1) xs) in
    let here : sum (drop k xs) ≡ x + sum (drop (k + 1) xs) = ap sum front ∙ cons in
    omega (arith, here, so_far)

-- ---- the same of plain data, which is read at a place

pub append-at : {X : Type 0} (xs : List X) (k : ℕ) (d : X) (out total : List X)
    → k < length xs
    → out ++ drop k xs ≡ total
    → (out ++ get_or xs k d ∷ []) ++ drop (k + 1) xs ≡ total
append-at xs k d out total lt so_far = append-more xs k (get_or xs k d) out total (drop-at xs k d lt) so_far

pub flat_map-at : {X A : Type 0} (f : X → List A) (xs : List X) (k : ℕ) (d : X) (out total : List A)
    → k < length xs
    → out ++ flat_map f (drop k xs) ≡ total
    → (out ++ f (get_or xs k d)) ++ flat_map f (drop (k + 1) xs) ≡ total
flat_map-at f xs k d out total lt so_far = flat_map-more f xs k (get_or xs k d) out total (drop-at xs k d lt) so_far

-- a fold that takes the next element
pub fold-at : {A B : Type 0} (f : B → A → B) (xs : List A) (k : ℕ) (d : A) (now total : B)
    → k < length xs
    → fold f now (drop k xs) ≡ total
    → fold f (f now (get_or xs k d)) (drop (k + 1) xs) ≡ total
fold-at f xs k d now total lt so_far = sym (ap (fold f now) (drop-at xs k d lt)) ∙ so_far

-- a list that grows by what f makes of the next element and its place
pub enumerated-more : {X A : Type 0} (f : ℕ × X → List A) (xs : List X) (k : ℕ) (x : X) (out total : List A)
    → drop k xs ≡ x ∷ drop (k + 1) xs
    → out ++ flat_map f (enumerate_from k (drop k xs)) ≡ total
    → (out ++ f (k, x)) ++ flat_map f (enumerate_from (k + 1) (drop (k + 1) xs)) ≡ total
enumerated-more {X} {A} f xs k x out total front so_far =
    append_assoc out (f (k, x)) (flat_map f (enumerate_from (k + 1) (drop (k + 1) xs)))
    ∙ ap (λ (rest : List A). out ++ rest) (sym (flat_map-cons f (k, x) (enumerate_from (k + 1) (drop (k + 1) xs))))
    ∙ ap (λ (rest : List X). out ++ flat_map f (enumerate_from k rest)) (sym front) ∙ so_far
