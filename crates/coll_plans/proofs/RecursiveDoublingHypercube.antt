-- corners of a hypercube: which members they stand for, and which exchange with one another
use Rattle.std.proofs.Common.{◌≡◌, ℕ, zero, suc, ◌+◌, ◌-◌, ◌*◌, ◌/◌, ◌%◌, ◌^◌, ◌<◌, ◌≤◌, ◌⊎◌, inl, inr, cond, eqb, ltb, sym, ap, subst, ◌∙◌, arith}
use Rattle.std.proofs.Common.{eq-eqb, ne_eqb, lt-ltb, le-ltb, ltb-true, ltb-false, pow-suc, pow_pos, mul-le-mul_right}
use Rattle.std.proofs.lemmas.Bool.{cases_eq, cases_lt, cond-true, cond-false, cond_both}
use Rattle.std.proofs.lemmas.Nat.{mod-mul-add, div-add-mod', pow-add}
use Rattle.coll_plans.specs.declared.recursive_doubling_fold.FoldPart.{FoldPart}
use Rattle.coll_plans.specs.declared.recursive_doubling_fold.FoldPart.TheVariants.{Lower, Upper, Alone}
use Rattle.coll_plans.specs.RecursiveDoublingHypercube.{dimension_from, dimension, extra, fold_part, corner, lowest, across, mate}

-- the dimension is the greatest that members reach
dimension_beyond : (fuel k n : ℕ) → n < 2 ^ suc (k + fuel) → n < 2 ^ suc (dimension_from fuel k n)
dimension_beyond zero k n h = subst (λ j. n < 2 ^ suc j) (omega arith) h
dimension_beyond (suc fuel) k n h =
    cond_both (ltb n (2 ^ suc k)) k (dimension_from fuel (suc k) n) (λ j. n < 2 ^ suc j)
    (λ e. ltb-true n (2 ^ suc k) e) (λ e. dimension_beyond fuel (suc k) n (subst (λ j. n < 2 ^ suc j) (omega arith) h))

dimension_full : (fuel k n : ℕ) → 2 ^ k ≤ n → 2 ^ dimension_from fuel k n ≤ n
dimension_full zero k n h = h
dimension_full (suc fuel) k n h =
    cond_both (ltb n (2 ^ suc k)) k (dimension_from fuel (suc k) n) (λ j. 2 ^ j ≤ n) (λ e. h) (λ e. dimension_full fuel (suc k) n (ltb-false n (2 ^ suc k) e))

dimension_from-most : (fuel k n : ℕ) → dimension_from fuel k n ≤ k + fuel
dimension_from-most zero k n = omega arith
dimension_from-most (suc fuel) k n =
    let rest : dimension_from fuel (suc k) n ≤ suc k + fuel = dimension_from-most fuel (suc k) n in
    cond_both (ltb n (2 ^ suc k)) k (dimension_from fuel (suc k) n) (λ j. j ≤ k + suc fuel) (λ e. omega arith) (λ e. omega arith)

pub dimension-most : (n : ℕ) → dimension n ≤ 6
unfolding dimension
dimension-most n = dimension_from-most 6 0 n

pub corners_filled : (n : ℕ) → 0 < n → 2 ^ dimension n ≤ n
unfolding dimension
corners_filled n h = dimension_full 6 0 n (omega arith)

pub extra_below : (n : ℕ) → 0 < n → n ≤ 64 → extra n < 2 ^ dimension n
unfolding dimension
extra_below n h top =
    let far : n < 2 ^ suc (dimension_from 6 0 n) = dimension_beyond 6 0 n (omega arith) in omega (arith, pow-suc 2 (dimension_from 6 0 n))

pub extra_whole : (n : ℕ) → 0 < n → extra n + 2 ^ dimension n ≡ n
extra_whole n h = let full : 2 ^ dimension n ≤ n = corners_filled n h in omega arith

-- one step of the search for the dimension
pub dimension_from-here : (d n : ℕ) → d < 6 → n < 2 ^ suc d → dimension_from (6 - d) d n ≡ d
dimension_from-here d n h k =
    ap (λ f. dimension_from f d n) (let z : 6 - d ≡ suc (5 - d) = omega arith in z)
    ∙ cond-true (ltb n (2 ^ suc d)) d (dimension_from (5 - d) (suc d) n) (lt-ltb n (2 ^ suc d) k)

pub dimension_from-next : (d n : ℕ) → d < 6 → 2 ^ suc d ≤ n → dimension_from (6 - d) d n ≡ dimension_from (6 - (d + 1)) (d + 1) n
dimension_from-next d n h k =
    ap (λ f. dimension_from f d n) (let z : 6 - d ≡ suc (5 - d) = omega arith in z)
    ∙ (cond-false (ltb n (2 ^ suc d)) d (dimension_from (5 - d) (suc d) n) (le-ltb n (2 ^ suc d) k)
    ∙ ap (λ f. dimension_from f (suc d) n) (let z : 5 - d ≡ 6 - (d + 1) = omega arith in z)
    ∙ ap (λ e. dimension_from (6 - (d + 1)) e n) (let z : suc d ≡ d + 1 = omega arith in z))

-- the members of a corner
pub lowest_double : (e q : ℕ) → q < e → lowest e q ≡ q + q
lowest_double e q h = cond-true (ltb q e) (q + q) (q + e) (lt-ltb q e h)

pub lowest_single : (e q : ℕ) → e ≤ q → lowest e q ≡ q + e
lowest_single e q h = cond-false (ltb q e) (q + q) (q + e) (le-ltb q e h)

pub lowest_rises : (e x y : ℕ) → x < y → lowest e x < lowest e y
lowest_rises e x y h = go (cases_lt x e) (cases_lt y e)
  where
    go : (x < e) ⊎ (e ≤ x) → (y < e) ⊎ (e ≤ y) → lowest e x < lowest e y
    go (inl a) (inl b) = omega (arith, lowest_double e x a, lowest_double e y b)
    go (inl a) (inr b) = omega (arith, lowest_double e x a, lowest_single e y b)
    go (inr a) (inl b) = absurd (omega arith)
    go (inr a) (inr b) = omega (arith, lowest_single e x a, lowest_single e y b)

pub lowest_in : (e c q : ℕ) → e ≤ c → q < c → lowest e q < e + c
lowest_in e c q h k = go (cases_lt q e)
  where
    go : (q < e) ⊎ (e ≤ q) → lowest e q < e + c
    go (inl a) = omega (arith, lowest_double e q a)
    go (inr a) = omega (arith, lowest_single e q a)

pub fold_part_lower : (e q : ℕ) → q < e → fold_part e (q + q) ≡ Lower
fold_part_lower e q h =
    cond-true (ltb (q + q) (e + e)) (cond (eqb ((q + q) % 2) 0) Lower Upper) Alone (lt-ltb (q + q) (e + e) (omega arith))
    ∙ cond-true (eqb ((q + q) % 2) 0) Lower Upper (eq-eqb ((q + q) % 2) 0 (omega arith))

pub fold_part_upper : (e q : ℕ) → q < e → fold_part e (suc (q + q)) ≡ Upper
fold_part_upper e q h =
    cond-true (ltb (suc (q + q)) (e + e)) (cond (eqb (suc (q + q) % 2) 0) Lower Upper) Alone (lt-ltb (suc (q + q)) (e + e) (omega arith))
    ∙ cond-false (eqb (suc (q + q) % 2) 0) Lower Upper (ne_eqb (suc (q + q) % 2) 0 (λ k. absurd (omega arith)))

pub fold_part_alone : (e r : ℕ) → e + e ≤ r → fold_part e r ≡ Alone
fold_part_alone e r h = cond-false (ltb r (e + e)) (cond (eqb (r % 2) 0) Lower Upper) Alone (le-ltb r (e + e) h)

corner_double : (e r : ℕ) → r < e + e → corner e r ≡ r / 2
corner_double e r h = cond-true (ltb r (e + e)) (r / 2) (r - e) (lt-ltb r (e + e) h)

corner_single : (e r : ℕ) → e + e ≤ r → corner e r ≡ r - e
corner_single e r h = cond-false (ltb r (e + e)) (r / 2) (r - e) (le-ltb r (e + e) h)

-- how a member of corner q stands, with its facts
pub data FoldPartIs (e r q : ℕ) : FoldPart → Type 0 where
  is_lower : q < e → r ≡ q + q → FoldPartIs e r q Lower
  is_upper : q < e → r ≡ suc (q + q) → FoldPartIs e r q Upper
  is_alone : e ≤ q → r ≡ q + e → FoldPartIs e r q Alone

pub fold_part_is : (e r : ℕ) → FoldPartIs e r (corner e r) (fold_part e r)
fold_part_is e r = go (cases_lt r (e + e)) (cases_eq (r % 2) 0)
  where
    first : r < e + e → fold_part e r ≡ cond (eqb (r % 2) 0) Lower Upper
    first h = cond-true (ltb r (e + e)) (cond (eqb (r % 2) 0) Lower Upper) Alone (lt-ltb r (e + e) h)

    go : (r < e + e) ⊎ (e + e ≤ r) → (r % 2 ≡ 0) ⊎ (r % 2 ≡ 0 → ⊥) → FoldPartIs e r (corner e r) (fold_part e r)
    go (inl h) (inl k) =
        let c : corner e r ≡ r / 2 = corner_double e r h in
        subst (FoldPartIs e r (corner e r)) (sym (first h ∙ cond-true (eqb (r % 2) 0) Lower Upper (eq-eqb (r % 2) 0 k))) (is_lower (omega arith) (omega arith))
    go (inl h) (inr k) =
        let c : corner e r ≡ r / 2 = corner_double e r h in
        subst (FoldPartIs e r (corner e r)) (sym (first h ∙ cond-false (eqb (r % 2) 0) Lower Upper (ne_eqb (r % 2) 0 k))) (is_upper (omega arith) (omega arith))
    go (inr h) k =
        let c : corner e r ≡ r - e = corner_single e r h in
        subst (FoldPartIs e r (corner e r)) (sym (fold_part_alone e r h)) (is_alone (omega arith) (omega arith))

pub corner_in : (e c r : ℕ) → e ≤ c → r < e + c → corner e r < c
corner_in e c r h k = go (fold_part_is e r)
  where
    go : {o : FoldPart} → FoldPartIs e r (corner e r) o → corner e r < c
    go (is_lower a b) = omega arith
    go (is_upper a b) = omega arith
    go (is_alone a b) = omega arith

-- who acts for a corner: all but the upper members of pairs
abbrev pub Leads : FoldPart → Type 0
Leads Lower = Unit {0}
Leads Upper = ⊥
Leads Alone = Unit {0}

pub lowest-corner : (e r : ℕ) → Leads (fold_part e r) → lowest e (corner e r) ≡ r
lowest-corner e r h = go (fold_part_is e r) h
  where
    go : {o : FoldPart} → FoldPartIs e r (corner e r) o → Leads o → lowest e (corner e r) ≡ r
    go (is_lower a b) k = lowest_double e (corner e r) a ∙ sym b
    go (is_upper a b) k = absurd k
    go (is_alone a b) k = lowest_single e (corner e r) a ∙ sym b

pub corner-lowest : (e q : ℕ) → corner e (lowest e q) ≡ q
corner-lowest e q = go (cases_lt q e)
  where
    go : (q < e) ⊎ (e ≤ q) → corner e (lowest e q) ≡ q
    go (inl h) = let l : lowest e q ≡ q + q = lowest_double e q h in corner_double e (lowest e q) (omega arith) ∙ omega arith
    go (inr h) = let l : lowest e q ≡ q + e = lowest_single e q h in corner_single e (lowest e q) (omega arith) ∙ omega arith

pub lowest_leads : (e q : ℕ) → Leads (fold_part e (lowest e q))
lowest_leads e q = go (cases_lt q e)
  where
    go : (q < e) ⊎ (e ≤ q) → Leads (fold_part e (lowest e q))
    go (inl h) = subst Leads (sym (ap (fold_part e) (lowest_double e q h) ∙ fold_part_lower e q h)) tt
    go (inr h) = subst Leads (sym (ap (fold_part e) (lowest_single e q h) ∙ fold_part_alone e (q + e) (omega arith))) tt

-- the corner across, of the lower half of a block of s + s corners and of the upper
pub side_low : (m s x : ℕ) → x < s → (m * (s + s) + x) % (s + s) ≡ x
side_low m s x h = mod-mul-add m (s + s) x (omega arith)

pub side_high : (m s x : ℕ) → x < s → (m * (s + s) + (s + x)) % (s + s) ≡ s + x
side_high m s x h = mod-mul-add m (s + s) (s + x) (omega arith)

pub across_low : (m s x : ℕ) → x < s → across (m * (s + s) + x) s ≡ m * (s + s) + (s + x)
across_low m s x h =
    let k : (m * (s + s) + x) % (s + s) ≡ x = side_low m s x h in
    cond-true (ltb ((m * (s + s) + x) % (s + s)) s) (m * (s + s) + x + s) (m * (s + s) + x - s) (lt-ltb ((m * (s + s) + x) % (s + s)) s (omega arith))
    ∙ omega arith

pub across_high : (m s x : ℕ) → x < s → across (m * (s + s) + (s + x)) s ≡ m * (s + s) + x
across_high m s x h =
    let k : (m * (s + s) + (s + x)) % (s + s) ≡ s + x = side_high m s x h in
    cond-false (ltb ((m * (s + s) + (s + x)) % (s + s)) s) (m * (s + s) + (s + x) + s) (m * (s + s) + (s + x) - s)
    (le-ltb ((m * (s + s) + (s + x)) % (s + s)) s (omega arith)) ∙ omega arith

-- in which half a corner is
pub data Side (q s : ℕ) : Type 0 where
  lower_half : (m x : ℕ) → x < s → m * (s + s) + x ≡ q → Side q s
  upper_half : (m x : ℕ) → x < s → m * (s + s) + (s + x) ≡ q → Side q s

pub side : (q s : ℕ) → 0 < s → Side q s
side q s h = go (cases_lt (q % (s + s)) s)
  where
    whole : q / (s + s) * (s + s) + q % (s + s) ≡ q
    whole = div-add-mod' q (s + s)

    go : (q % (s + s) < s) ⊎ (s ≤ q % (s + s)) → Side q s
    go (inl k) = lower_half (q / (s + s)) (q % (s + s)) k whole
    go (inr k) =
        upper_half (q / (s + s)) (q % (s + s) - s) (omega arith)
        (ap (λ y. q / (s + s) * (s + s) + y) (let z : s + (q % (s + s) - s) ≡ q % (s + s) = omega arith in z) ∙ whole)

pub across_back : (q s : ℕ) → 0 < s → across (across q s) s ≡ q
across_back q s h = go (side q s h)
  where
    go : Side q s → across (across q s) s ≡ q
    go (lower_half m x k e) = ap (λ y. across (across y s) s) (sym e) ∙ (ap (λ y. across y s) (across_low m s x k) ∙ (across_high m s x k ∙ e))
    go (upper_half m x k e) = ap (λ y. across (across y s) s) (sym e) ∙ (ap (λ y. across y s) (across_high m s x k) ∙ (across_low m s x k ∙ e))

-- a block that begins among the corners ends among them
pub block_in : (m c t x : ℕ) → m * t + x < c * t → m * t + t ≤ c * t
block_in m c t x h = go (cases_lt m c)
  where
    go : (m < c) ⊎ (c ≤ m) → m * t + t ≤ c * t
    go (inl k) = let z : suc m * t ≤ c * t = mul-le-mul_right t k in omega arith
    go (inr k) = let z : c * t ≤ m * t = mul-le-mul_right t k in absurd (omega arith)

pub across_in : (i d q : ℕ) → i < d → q < 2 ^ d → across q (2 ^ i) < 2 ^ d
across_in i d q low h = go (side q (2 ^ i) (pow_pos i))
  where
    split : 2 ^ (d - suc i) * (2 ^ i + 2 ^ i) ≡ 2 ^ d
    split =
        ap (λ t. 2 ^ (d - suc i) * t) (let z : 2 ^ i + 2 ^ i ≡ 2 ^ suc i = omega (arith, pow-suc 2 i) in z)
        ∙ (sym (pow-add 2 (d - suc i) (suc i)) ∙ ap (λ k. 2 ^ k) (let z : d - suc i + suc i ≡ d = omega arith in z))

    go : Side q (2 ^ i) → across q (2 ^ i) < 2 ^ d
    go (lower_half m x k e) =
        let a : across q (2 ^ i) ≡ m * (2 ^ i + 2 ^ i) + (2 ^ i + x) = ap (λ y. across y (2 ^ i)) (sym e) ∙ across_low m (2 ^ i) x k in
        let b : m * (2 ^ i + 2 ^ i) + (2 ^ i + 2 ^ i) ≤ 2 ^ (d - suc i) * (2 ^ i + 2 ^ i) =
        block_in m (2 ^ (d - suc i)) (2 ^ i + 2 ^ i) x (omega (arith, split)) in
        omega (arith, split)
    go (upper_half m x k e) =
        let a : across q (2 ^ i) ≡ m * (2 ^ i + 2 ^ i) + x = ap (λ y. across y (2 ^ i)) (sym e) ∙ across_high m (2 ^ i) x k in
        omega arith

-- an exchange is of two members, each of which acts for its corner
pub mate_back : (e s r : ℕ) → 0 < s → Leads (fold_part e r) → mate e s (mate e s r) ≡ r
mate_back e s r h k =
    ap (λ q. lowest e (across q s)) (corner-lowest e (across (corner e r) s)) ∙ (ap (lowest e) (across_back (corner e r) s h) ∙ lowest-corner e r k)

pub mate_leads : (e s r : ℕ) → Leads (fold_part e (mate e s r))
mate_leads e s r = lowest_leads e (across (corner e r) s)

pub mate_in : (e i d r : ℕ) → i < d → e ≤ 2 ^ d → r < e + 2 ^ d → mate e (2 ^ i) r < e + 2 ^ d
mate_in e i d r low h k = lowest_in e (2 ^ d) (across (corner e r) (2 ^ i)) h (across_in i d (corner e r) low (corner_in e (2 ^ d) r h k))

-- no distance passes 32
pub pow_short : (k : ℕ) → k < 6 → 2 ^ k ≤ 32
pow_short zero h = omega arith
pow_short (suc zero) h = omega arith
pow_short (suc (suc zero)) h = omega arith
pow_short (suc (suc (suc zero))) h = omega arith
pow_short (suc (suc (suc (suc zero)))) h = omega arith
pow_short (suc (suc (suc (suc (suc zero))))) h = omega arith
pow_short (suc (suc (suc (suc (suc (suc k)))))) h = absurd (omega arith)
