-- What loops over a list keep, element by element.
use Rattle.std.proofs.Common.{◌≡◌, ℕ, zero, suc, ◌+◌, ◌-◌, ◌<◌, ◌≤◌, Bool, true, false, ◌&&◌, List, [], ◌∷◌, ◌++◌, map, take, drop, length, get_or}
use Rattle.std.proofs.Common.{refl, ap, sym, ◌∙◌, append_assoc, add-one, arith}
use Rattle.std.specs.Prelude.{flat_map}
use Rattle.std.specs.List.{list_all, range_with_len, enumerate_from}
use Rattle.std.proofs.Math.Seq.{drop-cons}
use Rattle.std.proofs.lemmas.List.{append-nil, length-map, get_or-map}
use Rattle.std.proofs.lemmas.List.Concat.{flat_map-cons}
use Rattle.coll_parser.proofs.Lists.{drop-more}

pub drop-at : {X : Type 0} (xs : List X) (k : ℕ) (d : X) → k < length xs → drop k xs ≡ get_or xs k d ∷ drop (k + 1) xs
drop-at xs k d lt = rw (add-one, drop-cons xs k d lt) refl

-- ---- views of lists

pub drop-view : {X Y : Type 0} (v : X → Y) (xs : List X) (k : ℕ) (x : X) → k < length xs → x ≡ get_or xs k x
    → drop k (map v xs) ≡ v x ∷ drop (k + 1) (map v xs)
drop-view v xs k x lt is =
    let within : k < length (map v xs) = rw length-map lt in
    drop-more (map v xs) k (v x) within (ap v is ∙ sym (get_or-map v xs k x (v x) lt))

pub at-view : {X Y : Type 0} (v : X → Y) (xs : List X) (k : ℕ) (x : X) → k < length xs → x ≡ get_or xs k x
    → (k < length (map v xs)) × (v x ≡ get_or (map v xs) k (v x))
at-view v xs k x lt is = (rw length-map lt, ap v is ∙ sym (get_or-map v xs k x (v x) lt))

-- ---- a list that grows by what f makes of the next element

pub map-more : {X Y : Type 0} (f : X → Y) (xs : List X) (k : ℕ) (x : X) (out total : List Y) (y : Y)
    → drop k xs ≡ x ∷ drop (k + 1) xs → y ≡ f x → out ++ map f (drop k xs) ≡ total
    → (out ++ y ∷ []) ++ map f (drop (k + 1) xs) ≡ total
map-more {X} {Y} f xs k x out total y front made so_far =
    append_assoc out (y ∷ []) (map f (drop (k + 1) xs)) ∙ ap (λ (z : Y). out ++ z ∷ map f (drop (k + 1) xs)) made
    ∙ ap (λ (rest : List X). out ++ map f rest) (sym front) ∙ so_far

-- the same over the numbers below an end
pub map_range-more : {Y : Type 0} (f : ℕ → Y) (end k : ℕ) (out total : List Y) (y : Y) → k < end → y ≡ f k → out ++ map f (range_with_len k (end - k)) ≡ total
    → (out ++ y ∷ []) ++ map f (range_with_len (k + 1) (end - (k + 1))) ≡ total
map_range-more {Y} f end k out total y lt made so_far =
    let left : end - k ≡ suc (end - (k + 1)) = omega arith in
    append_assoc out (y ∷ []) (map f (range_with_len (k + 1) (end - (k + 1)))) ∙ ap (λ (z : Y). out ++ z ∷ map f (range_with_len (k + 1) (end - (k + 1)))) made
    ∙ ap (λ m. out ++ map f (range_with_len k m)) (sym left) ∙ so_far

-- ---- whether all pass

pub list_all-more : {X : Type 0} (p : X → Bool) (xs : List X) (k : ℕ) (x : X) (total : Bool) → k < length xs → x ≡ get_or xs k x
    → p x ≡ true → list_all p (drop k xs) ≡ total → list_all p (drop (k + 1) xs) ≡ total
list_all-more {X} p xs k x total lt is passes so_far =
    sym (ap (λ (b : Bool). b && list_all p (drop (k + 1) xs)) passes) ∙ ap (list_all p) (sym (drop-more xs k x lt is)) ∙ so_far

pub list_all-stops : {X : Type 0} (p : X → Bool) (xs : List X) (k : ℕ) (x : X) (total : Bool) → k < length xs → x ≡ get_or xs k x
    → p x ≡ false → list_all p (drop k xs) ≡ total → false ≡ total
list_all-stops {X} p xs k x total lt is fails so_far =
    sym (ap (λ (b : Bool). b && list_all p (drop (k + 1) xs)) fails) ∙ ap (list_all p) (sym (drop-more xs k x lt is)) ∙ so_far

-- ---- text that grows by what f makes of the next number

pub flat_map_range-more : (f : ℕ → List ℕ) (n i : ℕ) (out total : List ℕ) → i < n
    → out ++ flat_map f (range_with_len i (n - i)) ≡ total
    → (out ++ f i) ++ flat_map f (range_with_len (i + 1) (n - (i + 1))) ≡ total
flat_map_range-more f n i out total lt so_far =
    let left : n - i ≡ suc (n - (i + 1)) = omega arith in
    let others = flat_map f (range_with_len (i + 1) (n - (i + 1))) in
    let here : flat_map f (range_with_len i (n - i)) ≡ f i ++ others =
    ap (λ m. flat_map f (range_with_len i m)) left ∙ flat_map-cons f i (range_with_len (i + 1) (n - (i + 1))) in
    append_assoc out (f i) others ∙ ap (λ (xs : List ℕ). out ++ xs) (sym here) ∙ so_far

pub flat_map_range-done : (f : ℕ → List ℕ) (n i : ℕ) (out total : List ℕ) → n ≤ i
    → out ++ flat_map f (range_with_len i (n - i)) ≡ total → out ≡ total
flat_map_range-done f n i out total le so_far =
    let none : n - i ≡ 0 = omega (arith, le) in
    sym (append-nil out) ∙ ap (λ m. out ++ flat_map f (range_with_len i m)) (sym none) ∙ so_far

-- ---- text that grows by what is printed of the next element

pub text-more : {X : Type 0} (f : ℕ × X → List ℕ) (xs : List X) (i : ℕ) (x : X) (out total : List ℕ)
    → drop i xs ≡ x ∷ drop (i + 1) xs → out ++ flat_map f (enumerate_from i (drop i xs)) ≡ total
    → (out ++ f (i, x)) ++ flat_map f (enumerate_from (i + 1) (drop (i + 1) xs)) ≡ total
text-more {X} f xs i x out total front so_far =
    let others = flat_map f (enumerate_from (i + 1) (drop (i + 1) xs)) in
    append_assoc out (f (i, x)) others ∙ ap (λ (rest : List ℕ). out ++ rest) (sym (flat_map-cons f (i, x) (enumerate_from (i + 1) (drop (i + 1) xs))))
    ∙ ap (λ (rest : List X). out ++ flat_map f (enumerate_from i rest)) (sym front) ∙ so_far

pub take-next : {X : Type 0} (xs : List X) (k : ℕ) (x : X) → drop k xs ≡ x ∷ drop (k + 1) xs → take (k + 1) xs ≡ take k xs ++ x ∷ []
take-next {X} xs k x front = rw (add-one) (next xs k (front ∙ ap (λ m. x ∷ drop m xs) (add-one k)))
  where
    next : (ys : List X) (m : ℕ) → drop m ys ≡ x ∷ drop (suc m) ys → take (suc m) ys ≡ take m ys ++ x ∷ []
    next [] zero e = absurd cc
    next [] (suc m) e = absurd cc
    next (y ∷ ys) zero e = let same : y ≡ x = cc in ap (λ (z : X). z ∷ []) same
    next (y ∷ ys) (suc m) e = ap (λ (zs : List X). y ∷ zs) (next ys m e)
