-- What the columns say of the layout that they show.
use Rattle.std.proofs.Common.{◌≡◌, ℕ, zero, suc, ◌+◌, ◌<◌, ◌≤◌, cond, List, [], ◌∷◌, length, sym, refl, ap, subst, ◌∙◌, inl, inr, Some, None, eq-eqb}
use Rattle.std.proofs.Common.{ne_eqb, lt-ltb, le-ltb, get_or, slice_index, slice_get, arith, add-zero, suc-ne-zero}
use Rattle.std.proofs.lemmas.Bool.{cases_eq, cases_lt}
use Rattle.std.proofs.lemmas.List.{ext_get_or}
use Rattle.coll_lists.specs.Columns.{Joined, Shows, node_at, walk, walks}
use Rattle.coll_lists.specs.Layouts.{IsLawful, Layout, list_of, sequence, size, times}
use Rattle.coll_lists.specs.Neighbours.{after_in, before_in, first_in, last_in}
use Rattle.coll_lists.proofs.Lawful.{list_of-first, size-lawful, times-concat_none, times-concat_once}
use Rattle.coll_lists.proofs.Occurrences.{times-other, times-same}
use Rattle.coll_lists.proofs.Rings.{walk-joined}
use Rattle.coll_lists.proofs.Showing.{times-elsewhere, times-head, times-here}

pub length-walks : (next : List ℕ) (h : ℕ) (len : List ℕ) → length (walks next h len) ≡ length len
length-walks next h [] = refl
length-walks next h (k ∷ rest) = ap suc (length-walks next (suc h) rest)

pub get_or-walks : (next : List ℕ) (h : ℕ) (len : List ℕ) (l : ℕ) → l < length len → get_or (walks next h len) l [] ≡ walk next (h + l) (slice_index len l)
get_or-walks next h [] l low = absurd (omega (arith, low))
get_or-walks next h (k ∷ rest) zero low = ap (λ z. walk next z k) (sym (add-zero h))
get_or-walks next h (k ∷ rest) (suc l) low =
    get_or-walks next (suc h) rest l (omega arith) ∙ ap (λ z. walk next z (slice_index rest l)) (omega arith)

-- the walks give the layout back
pub walks-shown : (next prev list len : List ℕ) (L : Layout) → Shows next prev list len L → walks next (length list) len ≡ L
walks-shown next prev list len L s =
    ext_get_or [] (walks next (length list) len) L (length-walks next (length list) len ∙ sym s.lists_len)
    (λ l low.
    let l_low : l < length len = subst (λ z. l < z) (length-walks next (length list) len) low in
    get_or-walks next (length list) len l l_low
    ∙ ap (walk next (length list + l)) (s.counted l l_low)
    ∙ walk-joined next (slice_index prev) (length list + l) (sequence L l) (length list + l) (s.joined l l_low))

pub IsLawful-shown : (next prev list len : List ℕ) (L : Layout) → Shows next prev list len L → IsLawful (length list) L
IsLawful-shown next prev list len L s x =
    elim (cases_lt x (length list)) [
      | inl low ↦
          times-concat_once x L (slice_index list x) (subst (λ z. slice_index list x < z) (sym s.lists_len) (s.within x low))
          (times-here next prev list len L s x low)
          (λ l l_low ne. times-elsewhere next prev list len L s x l low (subst (λ z. l < z) s.lists_len l_low) (λ e. ne (sym e)))
          ∙ sym (ap (λ b. cond b 1 0) (lt-ltb x (length list) low))
      | inr high ↦
          times-concat_none x L (λ l l_low. times-head next prev list len L s x l high (subst (λ z. l < z) s.lists_len l_low))
          ∙ sym (ap (λ b. cond b 1 0) (le-ltb x (length list) high))
    ]

pub size-shown : (next prev list len : List ℕ) (L : Layout) → Shows next prev list len L → size L ≡ length list
size-shown next prev list len L s = size-lawful (length list) L (IsLawful-shown next prev list len L s)

-- the same under the names of the code: K is what the columns show, L what clauses see
pub lawful-seen : (next prev list len : List ℕ) (K L : Layout) → Shows next prev list len K → K ≡ L → IsLawful (size L) L
lawful-seen next prev list len K L s e =
    subst (λ z. IsLawful (size z) z) e (subst (λ n. IsLawful n K) (sym (size-shown next prev list len K s)) (IsLawful-shown next prev list len K s))

pub list_of-shown : (next prev list len : List ℕ) (L : Layout) → Shows next prev list len L → (x : ℕ) → x < length list → list_of L x ≡ slice_index list x
list_of-shown next prev list len L s x low =
    let once : times x (sequence L (slice_index list x)) ≡ 1 = times-here next prev list len L s x low in
    let home : slice_index list x < length len = s.within x low in
    list_of-first x L (slice_index list x) (subst (λ z. slice_index list x < z) (sym s.lists_len) home) (omega arith)
    (λ l l_low. times-elsewhere next prev list len L s x l low (omega arith) (λ e. absurd (omega (arith, e))))

-- each of these indices is a node's
abbrev pub Inside : ℕ → List ℕ → Type 0
Inside n [] = Unit {0}
Inside n (a ∷ rest) = (a < n) × Inside n rest

pub Inside-times : (n : ℕ) (s : List ℕ) → ((x : ℕ) → n ≤ x → times x s ≡ 0) → Inside n s
Inside-times n [] none = tt
Inside-times n (y ∷ rest) none =
    elim (cases_lt y n) [
      | inl low ↦ (low, Inside-times n rest (λ x high. sym (times-other x y rest (λ e. absurd (omega (arith, e)))) ∙ none x high))
      | inr high ↦ absurd (suc-ne-zero (times y rest) (sym (times-same y y rest refl) ∙ none y high))
    ]

pub node_at-low : (n at : ℕ) → at < n → node_at n at ≡ Some at
node_at-low n at low = ap (λ b. cond b (Some at) None) (lt-ltb at n low)

pub node_at-high : (n at : ℕ) → n ≤ at → node_at n at ≡ None
node_at-high n at high = ap (λ b. cond b (Some at) None) (le-ltb at n high)

-- joined nodes, read off at both ends and beside a node
pub first_in-joined : (n p : ℕ → ℕ) (from : ℕ) (s : List ℕ) (to k : ℕ) → k ≤ to → Inside k s → Joined n p from s to → node_at k (n from) ≡ first_in s
first_in-joined n p from [] to k high low j = ap (node_at k) j.0 ∙ node_at-high k to high
first_in-joined n p from (y ∷ rest) to k high low j = ap (node_at k) j.0 ∙ node_at-low k y low.0

pub last_in-tail : (n p : ℕ → ℕ) (y : ℕ) (rest : List ℕ) (to k : ℕ) → y < k → Inside k rest → Joined n p y rest to
    → (p to < k) × (Some (p to) ≡ slice_get (y ∷ rest) (length rest))
last_in-tail n p y [] to k y_low low j = (subst (λ z. z < k) (sym j.1) y_low, ap Some j.1)
last_in-tail n p y (z ∷ rest) to k y_low low j = last_in-tail n p z rest to k low.0 low.1 j.2

pub last_in-joined : (n p : ℕ → ℕ) (from : ℕ) (s : List ℕ) (to k : ℕ) → k ≤ from → Inside k s → Joined n p from s to → node_at k (p to) ≡ last_in s
last_in-joined n p from [] to k high low j = ap (node_at k) j.1 ∙ node_at-high k from high
last_in-joined n p from (y ∷ rest) to k high low j =
    let last : (p to < k) × (Some (p to) ≡ slice_get (y ∷ rest) (length rest)) = last_in-tail n p y rest to k low.0 low.1 j.2 in
    node_at-low k (p to) last.0 ∙ last.1 ∙ ap (slice_get (y ∷ rest)) (omega arith)

pub after_in-joined : (n p : ℕ → ℕ) (x from : ℕ) (s : List ℕ) (to k : ℕ) → k ≤ to → Inside k s → 0 < times x s
    → Joined n p from s to → node_at k (n x) ≡ after_in x s
after_in-joined n p x from [] to k high low some j = absurd (omega (arith, some))
after_in-joined n p x from (y ∷ []) to k high low some j =
    elim (cases_eq y x) [
      | inl e ↦ ap (λ z. node_at k (n z)) (sym e) ∙ ap (node_at k) j.2.0 ∙ node_at-high k to high
      | inr ne ↦ absurd (omega (arith, some, times-other x y [] ne))
    ]
after_in-joined n p x from (y ∷ z ∷ rest) to k high low some j =
    elim (cases_eq y x) [
      | inl e ↦ ap (λ i. node_at k (n i)) (sym e) ∙ ap (node_at k) j.2.0 ∙ node_at-low k z low.1.0
          ∙ sym (ap (λ b. cond b (Some z) (after_in x (z ∷ rest))) (eq-eqb y x e))
      | inr ne ↦ after_in-joined n p x y (z ∷ rest) to k high low.1 (subst (λ i. 0 < i) (times-other x y (z ∷ rest) ne) some) j.2
          ∙ sym (ap (λ b. cond b (Some z) (after_in x (z ∷ rest))) (ne_eqb y x ne))
    ]

pub before_in-none : (x y : ℕ) (rest : List ℕ) → times x rest ≡ 0 → before_in x (y ∷ rest) ≡ None
before_in-none x y [] none = refl
before_in-none x y (z ∷ rest) none =
    elim (cases_eq z x) [
      | inl e ↦ absurd (suc-ne-zero (times x rest) (sym (times-same x z rest e) ∙ none))
      | inr ne ↦ ap (λ b. cond b (Some y) (before_in x (z ∷ rest))) (ne_eqb z x ne)
          ∙ before_in-none x z rest (sym (times-other x z rest ne) ∙ none)
    ]

pub before_in-tail : (n p : ℕ → ℕ) (x y : ℕ) (rest : List ℕ) (to k : ℕ) → y < k → Inside k rest → 0 < times x rest
    → Joined n p y rest to → (p x < k) × (Some (p x) ≡ before_in x (y ∷ rest))
before_in-tail n p x y [] to k y_low low some j = absurd (omega (arith, some))
before_in-tail n p x y (z ∷ rest) to k y_low low some j =
    elim (cases_eq z x) [
      | inl e ↦
          let is : p x ≡ y = ap p (sym e) ∙ j.1 in
          (subst (λ i. i < k) (sym is) y_low, ap Some is ∙ sym (ap (λ b. cond b (Some y) (before_in x (z ∷ rest))) (eq-eqb z x e)))
      | inr ne ↦
          let more : (p x < k) × (Some (p x) ≡ before_in x (z ∷ rest)) =
          before_in-tail n p x z rest to k low.0 low.1 (subst (λ i. 0 < i) (times-other x z rest ne) some) j.2 in
          (more.0, more.1 ∙ sym (ap (λ b. cond b (Some y) (before_in x (z ∷ rest))) (ne_eqb z x ne)))
    ]

pub before_in-joined : (n p : ℕ → ℕ) (x from : ℕ) (s : List ℕ) (to k : ℕ) → k ≤ from → Inside k s → times x s ≡ 1
    → Joined n p from s to → node_at k (p x) ≡ before_in x s
before_in-joined n p x from [] to k high low once j = absurd (omega (arith, once))
before_in-joined n p x from (y ∷ rest) to k high low once j =
    elim (cases_eq y x) [
      | inl e ↦
          let none : suc (times x rest) ≡ 1 = sym (times-same x y rest e) ∙ once in
          ap (λ z. node_at k (p z)) (sym e) ∙ ap (node_at k) j.1 ∙ node_at-high k from high
          ∙ sym (before_in-none x y rest (omega (arith, none)))
      | inr ne ↦
          let here : times x rest ≡ 1 = sym (times-other x y rest ne) ∙ once in
          let tail : (p x < k) × (Some (p x) ≡ before_in x (y ∷ rest)) = before_in-tail n p x y rest to k low.0 low.1 (omega (arith, here)) j.2 in
          node_at-low k (p x) tail.0 ∙ tail.1
    ]
