-- The columns that `new` makes show all nodes on list 0.
use Rattle.std.proofs.Common.{◌≡◌, ℕ, zero, suc, ◌+◌, ◌-◌, ◌<◌, ◌≤◌, ◌^◌, ◌&&◌, cond, List, [], ◌∷◌, length, eqb, ltb, sym, refl, ap, subst, ◌∙◌, inl}
use Rattle.std.proofs.Common.{inr, eq-eqb, ne_eqb, lt-ltb, le-ltb, set, slice_index, replicate, arith, zero-add, add-zero}
use Rattle.std.proofs.lemmas.Bool.{cases_eq, cases_lt}
use Rattle.std.proofs.lemmas.List.{get_or-replicate, get_or_past, length-replicate, length-set}
use Rattle.std.proofs.lemmas.List.FromFn.{length-range_with_len}
use Rattle.std.specs.List.{range_with_len}
use Rattle.coll_lists.specs.Columns.{Joined, Shows, opening_next, opening_prev}
use Rattle.coll_lists.specs.Layouts.{Layout, sequence, times}
use Rattle.coll_lists.proofs.Occurrences.{times-other, times-same}
use Rattle.coll_lists.proofs.Showing.{at_set, off_set}

-- the layout of `new`
abbrev pub opening : ℕ → ℕ → Layout
opening nodes lists = range_with_len 0 nodes ∷ replicate (lists - 1) []

pub times-range_before : (x a k : ℕ) → x < a → times x (range_with_len a k) ≡ 0
times-range_before x a zero low = refl
times-range_before x a (suc k) low = times-other x a _ (λ e. absurd (omega (arith, e))) ∙ times-range_before x (a + 1) k (omega arith)

pub times-range : (x a k : ℕ) → a ≤ x → times x (range_with_len a k) ≡ cond (ltb x (a + k)) 1 0
times-range x a zero low = sym (ap (λ b. cond b 1 0) (le-ltb x (a + 0) (omega arith)))
times-range x a (suc k) low =
    elim (cases_eq a x) [
      | inl e ↦ times-same x a _ e ∙ ap suc (times-range_before x (a + 1) k (omega (arith, e)))
          ∙ sym (ap (λ b. cond b 1 0) (lt-ltb x (a + suc k) (omega (arith, e))))
      | inr ne ↦ times-other x a _ ne ∙ times-range x (a + 1) k (omega (arith, ne)) ∙ ap (λ z. cond (ltb x z) 1 0) (omega arith)
    ]

-- the opening links
pub next_low : (n i : ℕ) → i < n → opening_next n i ≡ i + 1
next_low n i low = ap (λ b. cond b (i + 1) (cond (eqb i n) 0 i)) (lt-ltb i n low)

pub next_head : (n : ℕ) → opening_next n n ≡ 0
next_head n = ap (λ b. cond b (n + 1) (cond (eqb n n) 0 n)) (le-ltb n n (omega arith)) ∙ ap (λ b. cond b 0 n) (eq-eqb n n refl)

pub next_high : (n i : ℕ) → n < i → opening_next n i ≡ i
next_high n i high =
    ap (λ b. cond b (i + 1) (cond (eqb i n) 0 i)) (le-ltb i n (omega arith)) ∙ ap (λ b. cond b 0 i) (ne_eqb i n (λ e. absurd (omega (arith, e))))

pub prev_low : (n i : ℕ) → i < n → opening_prev n (i + 1) ≡ i
prev_low n i low =
    ap (λ b. cond b n (cond (ltb n (i + 1)) (i + 1) (i + 1 - 1))) (ne_eqb (i + 1) 0 (λ e. absurd (omega (arith, e))))
    ∙ ap (λ b. cond b (i + 1) (i + 1 - 1)) (le-ltb n (i + 1) (omega arith)) ∙ omega arith

pub prev_high : (n i : ℕ) → n < i → opening_prev n i ≡ i
prev_high n i high =
    ap (λ b. cond b n (cond (ltb n i) i (i - 1))) (ne_eqb i 0 (λ e. absurd (omega (arith, e))))
    ∙ ap (λ b. cond b i (i - 1)) (lt-ltb n i high)

-- columns with these entries
pub record Opened (next prev : List ℕ) (n m : ℕ) : Type 0 where
  pub next_len : length next ≡ n + m
  pub forth : (at : ℕ) → at < n + m → slice_index next at ≡ opening_next n at
  pub prev_len : length prev ≡ n + m
  pub back : (at : ℕ) → at < n + m → slice_index prev at ≡ opening_prev n at

pub Joined-range : (next prev : List ℕ) (n m : ℕ) → Opened next prev n m → 0 < m → (k a from : ℕ) → a + k ≡ n
    → slice_index next from ≡ a → slice_index prev a ≡ from → Joined (slice_index next) (slice_index prev) from (range_with_len a k) n
Joined-range next prev n m o some zero a from end forth back =
    let is : a ≡ n = omega arith in
    (forth ∙ is, ap (slice_index prev) (sym is) ∙ back)
Joined-range next prev n m o some (suc k) a from end forth back = (
  forth,
  back,
  Joined-range next prev n m o some k (a + 1) a (omega arith)
      (o.forth a (omega arith) ∙ next_low n a (omega arith))
      (o.back (a + 1) (omega arith) ∙ prev_low n a (omega arith)),
)

-- every other list is empty
pub sequence-opening : (n m l : ℕ) → sequence (opening n m) (suc l) ≡ []
sequence-opening n m l =
    elim (cases_lt l (m - 1)) [
      | inl low ↦ get_or-replicate (m - 1) l [] [] low
      | inr high ↦ get_or_past (replicate (m - 1) []) l [] (subst (λ z. z ≤ l) (sym (length-replicate (m - 1) [])) high)
    ]

-- each list's ring, its nodes and its length
pub joins-opening : (next prev : List ℕ) (n m : ℕ) → Opened next prev n m → 0 < m → (l : ℕ) → l < m
    → Joined (slice_index next) (slice_index prev) (n + l) (sequence (opening n m) l) (n + l)
joins-opening next prev n m o some zero low = rw (add-zero)
    (Joined-range next prev n m o some n 0 n (omega arith) (o.forth n (omega arith) ∙ next_head n) (o.back 0 (omega arith)))
joins-opening next prev n m o some (suc l) low = rw (sequence-opening n m l)
    (o.forth (n + suc l) (omega arith) ∙ next_high n (n + suc l) (omega arith), o.back (n + suc l) (omega arith) ∙ prev_high n (n + suc l) (omega arith))

pub places-opening : (n m node l : ℕ) → times node (sequence (opening n m) l) ≡ cond (ltb node n && eqb (slice_index (replicate n 0) node) l) 1 0
places-opening n m node zero =
    times-range node 0 n (omega arith) ∙ ap (λ z. cond (ltb node z) 1 0) (zero-add n)
    ∙ elim (cases_lt node n) [
      | inl low ↦ ap (λ b. cond b 1 0) (lt-ltb node n low) ∙ sym (ap (λ b. cond (b && eqb (slice_index (replicate n 0) node) 0) 1 0) (lt-ltb node n low)
          ∙ ap (λ b. cond b 1 0) (eq-eqb (slice_index (replicate n 0) node) 0 (get_or-replicate n node 0 0 low)))
      | inr high ↦ ap (λ b. cond b 1 0) (le-ltb node n high) ∙ sym (ap (λ b. cond (b && eqb (slice_index (replicate n 0) node) 0) 1 0) (le-ltb node n high))
    ]
places-opening n m node (suc l) =
    ap (times node) (sequence-opening n m l)
    ∙ elim (cases_lt node n) [
      | inl low ↦ sym (ap (λ b. cond (b && eqb (slice_index (replicate n 0) node) (suc l)) 1 0) (lt-ltb node n low)
          ∙ ap (λ b. cond b 1 0) (ne_eqb (slice_index (replicate n 0) node) (suc l) (λ e. absurd (omega (arith, get_or-replicate {A = ℕ} n node 0 0 low, e)))))
      | inr high ↦ sym (ap (λ b. cond (b && eqb (slice_index (replicate n 0) node) (suc l)) 1 0) (le-ltb node n high))
    ]

pub counts-opening : (n m l : ℕ) → l < m → slice_index (set (replicate m 0) 0 n) l ≡ length (sequence (opening n m) l)
counts-opening n m zero low =
    at_set (replicate m 0) 0 n (subst (λ z. 0 < z) (sym (length-replicate m 0)) low) ∙ sym (length-range_with_len 0 n)
counts-opening n m (suc l) low =
    off_set (replicate m 0) 0 n (suc l) (λ e. absurd (omega (arith, e))) ∙ get_or-replicate m (suc l) 0 0 low
    ∙ sym (ap length (sequence-opening n m l))

pub Shows-opening : (next prev : List ℕ) (n m : ℕ) → Opened next prev n m → 0 < m → n + m < 2 ^ 32
    → Shows next prev (replicate n 0) (set (replicate m 0) 0 n) (opening n m)
Shows-opening next prev n m o some fits =
    let nodes : length (replicate {A = ℕ} n 0) ≡ n = length-replicate {A = ℕ} n 0 in
    let zeros : length (replicate {A = ℕ} m 0) ≡ m = length-replicate {A = ℕ} m 0 in
    let lists : length (set (replicate {A = ℕ} m 0) 0 n) ≡ m = length-set (replicate m 0) 0 n ∙ zeros in
    record {
      next_len = o.next_len ∙ omega arith;
      prev_len = o.prev_len ∙ omega arith;
      fits = omega arith;
      lists_len = ap suc (length-replicate (m - 1) []) ∙ omega arith;
      within = λ node low. subst (λ z. z < length (set (replicate {A = ℕ} m 0) 0 n)) (sym (get_or-replicate n node 0 0 (omega arith))) (omega arith);
      next_in = λ i low.
          let here : i < n + m = subst (λ z. i < z) o.next_len low in
          subst (λ z. z < length next) (sym (o.forth i here))
          (elim (cases_lt i n) [
            | inl below ↦ subst (λ z. z < length next) (sym (next_low n i below)) (omega (arith, o.next_len))
            | inr above ↦
                elim (cases_eq i n) [
                  | inl e ↦ subst (λ z. z < length next) (sym (ap (opening_next n) e ∙ next_head n)) (omega (arith, o.next_len))
                  | inr ne ↦ subst (λ z. z < length next) (sym (next_high n i (omega (arith, ne)))) low
                ]
          ]);
      prev_in = λ i low.
          let here : i < n + m = subst (λ z. i < z) o.prev_len low in
          subst (λ z. z < length prev) (sym (o.back i here))
          (elim (cases_lt n i) [
            | inl above ↦ subst (λ z. z < length prev) (sym (prev_high n i above)) low
            | inr below ↦
                elim (cases_eq i 0) [
                  | inl e ↦ subst (λ z. z < length prev) (sym (ap (opening_prev n) e)) (omega (arith, o.prev_len))
                  | inr ne ↦
                      let before : i ≡ i - 1 + 1 = omega (arith, ne) in
                      subst (λ z. z < length prev) (sym (ap (opening_prev n) before ∙ prev_low n (i - 1) (omega (arith, ne)))) (omega (arith, o.prev_len))
                ]
          ]);
      joined = λ l low. rw nodes (joins-opening next prev n m o some l (omega arith));
      placed = λ node l low. rw nodes (places-opening n m node l);
      counted = λ l low. counts-opening n m l (omega arith);
    }

-- the same under the names of the code
pub Shows-opened : (next prev list len : List ℕ) (n m : ℕ) → 0 < m → n + m < 2 ^ 32 →
    length next ≡ n + m → ((at : ℕ) → at < n + m → slice_index next at ≡ opening_next n at) →
    length prev ≡ n + m → ((at : ℕ) → at < n + m → slice_index prev at ≡ opening_prev n at) →
    list ≡ replicate n 0 → len ≡ set (replicate m 0) 0 n → Shows next prev list len (opening n m)
Shows-opened next prev list len n m some fits next_len forth prev_len back list_is len_is =
    subst (λ z. Shows next prev z len (opening n m)) (sym list_is)
    (subst (λ z. Shows next prev (replicate n 0) z (opening n m)) (sym len_is)
    (Shows-opening next prev n m (record { next_len = next_len; forth = forth; prev_len = prev_len; back = back }) some fits))
