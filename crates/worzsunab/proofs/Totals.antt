-- The members that groups have in all.
use Rattle.std.proofs.Common.{◌≡◌, ◌∙◌, sym, ap, refl, ◌++◌, ◌+◌, ◌<◌, ◌≤◌, ℕ, suc, arith, List, [], ◌∷◌, length, map, take, drop}
use Rattle.std.specs.List.{concat}
use Rattle.std.proofs.Math.Seq.{take-suc}
use Rattle.std.proofs.Math.ListN.{get_or}
use Rattle.std.proofs.lemmas.List.{length-append, take-append-drop}
use Rattle.worzsunab.specs.Openings.{IsCut, IsUncut}

abbrev pub sum : List ℕ → ℕ
sum [] = 0
sum (n ∷ ns) = n + sum ns

pub sum-append : (xs ys : List ℕ) → sum (xs ++ ys) ≡ sum xs + sum ys
sum-append [] ys =
    let same : sum ys ≡ 0 + sum ys = omega arith in
    same
sum-append (x ∷ xs) ys =
    let rest = sum-append xs ys in
    let next : x + sum (xs ++ ys) ≡ x + sum xs + sum ys = omega arith in
    next

pub length-concat : (groups : List (List ℕ)) → length (concat groups) ≡ sum (map (λ g. length g) groups)
length-concat [] = refl
length-concat (g ∷ gs) = length-append g (concat gs) ∙ ap (λ n. length g + n) (length-concat gs)

pub sum-cut : (sizes members : List ℕ) (groups : List (List ℕ)) → IsCut sizes members groups → length members ≡ sum sizes
sum-cut sizes members groups cut = ap (λ l. length l) (sym cut.members_are) ∙ length-concat groups ∙ ap (λ l. sum l) cut.sizes_are

pub sum-take : (sizes : List ℕ) (i : ℕ) → sum (take i sizes) ≤ sum sizes
sum-take sizes i =
    let whole = ap (λ l. sum l) (take-append-drop i sizes) in
    let parts = sum-append (take i sizes) (drop i sizes) in
    omega arith

-- those so far and those after them are all members
pub sum-so-far : (sizes members rest : List ℕ) (done : List (List ℕ)) (i : ℕ) → map (λ g. length g) done ≡ take i sizes
    → concat done ++ rest ≡ members → length members ≡ sum (take i sizes) + length rest
sum-so-far sizes members rest done i so_far whole =
    ap (λ l. length l) (sym whole) ∙ length-append (concat done) rest
    ∙ ap (λ n. n + length rest) (length-concat done ∙ ap (λ l. sum l) so_far)

-- fewer are left than the next group has
pub uncut-short : (sizes members rest : List ℕ) (done : List (List ℕ)) (i : ℕ) → map (λ g. length g) done ≡ take i sizes
    → concat done ++ rest ≡ members → i < length sizes → length rest < get_or sizes i 0 → IsUncut sizes members
uncut-short sizes members rest done i so_far whole low short groups cut =
    let here = sum-so-far sizes members rest done i so_far whole in
    let all = sum-cut sizes members groups cut in
    let next = ap (λ l. sum l) (take-suc sizes i 0 low) ∙ sum-append (take i sizes) (get_or sizes i 0 ∷ []) in
    let most = sum-take sizes (suc i) in
    absurd (omega arith)

-- some are left after the last group
pub uncut-long : (sizes members rest : List ℕ) (done : List (List ℕ)) → map (λ g. length g) done ≡ sizes
    → concat done ++ rest ≡ members → 0 < length rest → IsUncut sizes members
uncut-long sizes members rest done so_far whole some groups cut =
    let all = sum-cut sizes members groups cut in
    let here = ap (λ l. length l) (sym whole) ∙ length-append (concat done) rest ∙ ap (λ n. n + length rest) (length-concat done ∙ ap (λ l. sum l) so_far) in
    absurd (omega arith)
