-- Lists of references to requests.
use Rattle.std.proofs.Common.{◌≡◌, ℕ, ◌+◌, Bool, true, false, cond, List, [], ◌∷◌, ◌++◌, map, drop, refl, ap, sym, ◌∙◌, append_assoc}
use Rattle.std.specs.Prelude.{filter}
use Rattle.coll_parser.specs.Requests.{Request}
use Rattle.coll_script.specs.Postings.{is_on, posted_on, postings, postings_from}

filter-turn : {X Y : Type 0} (v : X → Y) (x : X) (b : Bool) (xs : List X) (ys : List Y) → map v xs ≡ ys → map v (cond b (x ∷ xs) xs) ≡ cond b (v x ∷ ys) ys
filter-turn v x true xs ys e = ap (λ (l : List _). v x ∷ l) e
filter-turn v x false xs ys e = e

-- a test of what v makes of the elements
pub filter-map : {X Y : Type 0} (v : X → Y) (p : Y → Bool) (xs : List X) → map v (filter (λ x. p (v x)) xs) ≡ filter p (map v xs)
filter-map v p [] = refl
filter-map v p (x ∷ xs) = filter-turn v x (p (v x)) (filter (λ y. p (v y)) xs) (filter p (map v xs)) (filter-map v p xs)

pub map-map : {X Y Z : Type 0} (f : Y → Z) (g : X → Y) (xs : List X) → map f (map g xs) ≡ map (λ x. f (g x)) xs
map-map f g [] = refl
map-map f g (x ∷ xs) = ap (λ (l : List _). f (g x) ∷ l) (map-map f g xs)

-- what a list of one more element makes
pub map-push : {X Y : Type 0} (f : X → Y) (xs : List X) (x : X) (y : Y) → f x ≡ y → map f (xs ++ x ∷ []) ≡ map f xs ++ y ∷ []
map-push f [] x y e = ap (λ (z : _). z ∷ []) e
map-push f (w ∷ xs) x y e = ap (λ (l : List _). f w ∷ l) (map-push f xs x y e)

pub postings_from-more : (requests : List (List Request)) (comm : ℕ) (groups : List (List ℕ)) (group : List ℕ)
    (out total : List (List (List Request))) (lists : List (List Request)) → drop comm groups ≡ group ∷ drop (comm + 1) groups
    → lists ≡ postings requests comm group → out ++ postings_from requests comm (drop comm groups) ≡ total
    → (out ++ lists ∷ []) ++ postings_from requests (comm + 1) (drop (comm + 1) groups) ≡ total
postings_from-more requests comm groups group out total lists front made so_far =
    append_assoc out (lists ∷ []) (postings_from requests (comm + 1) (drop (comm + 1) groups))
    ∙ ap (λ (ls : List (List Request)). out ++ ls ∷ postings_from requests (comm + 1) (drop (comm + 1) groups)) made
    ∙ ap (λ (gs : List (List ℕ)). out ++ postings_from requests comm gs) (sym front) ∙ so_far

-- the requests on a communicator so far, after one more request
pub posted-kept : (comm : ℕ) (xs : List Request) (k : ℕ) (p : Request) (out new total : List Request)
    → drop k xs ≡ p ∷ drop (k + 1) xs → is_on comm p ≡ true → new ≡ out ++ p ∷ []
    → out ++ posted_on comm (drop k xs) ≡ total → new ++ posted_on comm (drop (k + 1) xs) ≡ total
posted-kept comm xs k p out new total front on made so_far =
    let others = posted_on comm (drop (k + 1) xs) in
    ap (λ (l : List Request). l ++ others) made ∙ append_assoc out (p ∷ []) others ∙ ap (λ (b : Bool). out ++ cond b (p ∷ others) others) (sym on)
    ∙ ap (λ (l : List Request). out ++ posted_on comm l) (sym front) ∙ so_far

pub posted-left : (comm : ℕ) (xs : List Request) (k : ℕ) (p : Request) (out total : List Request) → drop k xs ≡ p ∷ drop (k + 1) xs → is_on comm p ≡ false
    → out ++ posted_on comm (drop k xs) ≡ total → out ++ posted_on comm (drop (k + 1) xs) ≡ total
posted-left comm xs k p out total front on so_far =
    let others = posted_on comm (drop (k + 1) xs) in
    ap (λ (b : Bool). out ++ cond b (p ∷ others) others) (sym on) ∙ ap (λ (l : List Request). out ++ posted_on comm l) (sym front) ∙ so_far
