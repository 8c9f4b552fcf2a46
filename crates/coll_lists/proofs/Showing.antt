-- The columns after a move show the layout after it.
use Rattle.std.proofs.Common.{◌≡◌, ◌≢◌, ℕ, suc, ◌+◌, ◌-◌, ◌<◌, ◌≤◌, ◌&&◌, cond, List, length, eqb, ltb, sym, refl, ap, subst, ◌∙◌, inl, inr, eq-eqb}
use Rattle.std.proofs.Common.{ne_eqb, lt-ltb, le-ltb, set, slice_index, arith, add-one, ◌^◌}
use Rattle.std.proofs.lemmas.Bool.{cases_eq}
use Rattle.std.proofs.lemmas.List.{get_or-set_same, get_or-set_other, length-set}
use Rattle.coll_lists.specs.Columns.{Joined, Shows, len_entered}
use Rattle.coll_lists.proofs.Linking.{next_unlinked, prev_unlinked, next_linked, prev_linked}
use Rattle.coll_lists.specs.Layouts.{Layout, sequence, times}
use Rattle.coll_lists.specs.Moves.{taken_out}
use Rattle.coll_lists.proofs.Occurrences.{Moved, Avoids-from_times, times-taken_out, times-taken_out-other, length-taken_out}
use Rattle.coll_lists.proofs.Rings.{Avoids, Unlinks, Inserts, left, next-prev_in, prev-next_in}

-- one column after a write
pub at_set : (xs : List ℕ) (i v : ℕ) → i < length xs → slice_index (set xs i v) i ≡ v
at_set xs i v low = get_or-set_same xs i v 0 low

pub off_set : (xs : List ℕ) (i v k : ℕ) → k ≢ i → slice_index (set xs i v) k ≡ slice_index xs k
off_set xs i v k ne = get_or-set_other xs i k v 0 ne

-- a column whose entries stay below its length
abbrev pub Closed : List ℕ → Type 0
Closed xs = (i : ℕ) → i < length xs → slice_index xs i < length xs

pub Closed-set : (xs : List ℕ) (i v : ℕ) → v < length xs → Closed xs → Closed (set xs i v)
Closed-set xs i v low closed k within =
    let was : k < length xs = subst (λ z. k < z) (length-set xs i v) within in
    rw (length-set xs i v)
    (elim (cases_eq k i) [
      | inl e ↦ subst (λ z. z < length xs) (sym (ap (slice_index (set xs i v)) e ∙ at_set xs i v (subst (λ z. z < length xs) e was))) low
      | inr ne ↦ subst (λ z. z < length xs) (sym (off_set xs i v k ne)) (closed k was)
    ])

-- how often a node stands on a list that the columns show
pub times-here : (next prev list len : List ℕ) (L : Layout) → Shows next prev list len L → (x : ℕ) → x < length list
    → times x (sequence L (slice_index list x)) ≡ 1
times-here next prev list len L s x low =
    s.placed x (slice_index list x) (s.within x low)
    ∙ ap (λ t. cond (t && eqb (slice_index list x) (slice_index list x)) 1 0) (lt-ltb x (length list) low)
    ∙ ap (λ t. cond t 1 0) (eq-eqb (slice_index list x) (slice_index list x) refl)

pub times-elsewhere : (next prev list len : List ℕ) (L : Layout) → Shows next prev list len L → (x l : ℕ) → x < length list
    → l < length len → slice_index list x ≢ l → times x (sequence L l) ≡ 0
times-elsewhere next prev list len L s x l low list_low ne =
    s.placed x l list_low
    ∙ ap (λ t. cond (t && eqb (slice_index list x) l) 1 0) (lt-ltb x (length list) low)
    ∙ ap (λ t. cond t 1 0) (ne_eqb (slice_index list x) l ne)

pub times-head : (next prev list len : List ℕ) (L : Layout) → Shows next prev list len L → (x l : ℕ) → length list ≤ x
    → l < length len → times x (sequence L l) ≡ 0
times-head next prev list len L s x l high list_low =
    s.placed x l list_low
    ∙ ap (λ t. cond (t && eqb (slice_index list x) l) 1 0) (le-ltb x (length list) high)

-- What stands between the two halves of a move: x is in no ring, and every other node in the ring it was in.
pub record Loose (next prev list len : List ℕ) (L : Layout) (x : ℕ) : Type 0 where
  pub next_len : length next ≡ length list + length len
  pub prev_len : length prev ≡ length list + length len
  pub next_in : Closed next
  pub prev_in : Closed prev
  pub joined : (l : ℕ) → l < length len → Joined (slice_index next) (slice_index prev) (length list + l) (taken_out x (sequence L l)) (length list + l)

pub unlinks : (next prev : List ℕ) (x : ℕ) → slice_index prev x < length next → slice_index next x < length prev
    → slice_index next (slice_index prev x) ≡ x → slice_index prev (slice_index next x) ≡ x
    → Unlinks (slice_index next) (slice_index prev) x (slice_index (next_unlinked next prev x)) (slice_index (prev_unlinked next prev x))
unlinks next prev x left_low right_low back forth = record {
  after_left = back;
  before_right = forth;
  next_at = at_set next (slice_index prev x) (slice_index next x) left_low;
  next_off = λ i ne. off_set next (slice_index prev x) (slice_index next x) i ne;
  prev_at = at_set prev (slice_index next x) (slice_index prev x) right_low;
  prev_off = λ i ne. off_set prev (slice_index next x) (slice_index prev x) i ne;
}

pub Loose-unlinked : (next prev list len : List ℕ) (L : Layout) (x : ℕ) → Shows next prev list len L → x < length list
    → Loose (next_unlinked next prev x) (prev_unlinked next prev x) list len L x
Loose-unlinked next prev list len L x s low =
    let home : slice_index list x < length len = s.within x low in
    let once : times x (sequence L (slice_index list x)) ≡ 1 = times-here next prev list len L s x low in
    let some : 0 < times x (sequence L (slice_index list x)) = omega arith in
    let ring : Joined (slice_index next) (slice_index prev) (length list + slice_index list x) (sequence L (slice_index list x))
    (length list + slice_index list x) = s.joined (slice_index list x) home in
    let lens : (length next ≡ length list + length len) × (length prev ≡ length list + length len) = (s.next_len, s.prev_len) in
    let next_at : slice_index next x < length next = s.next_in x (omega arith) in
    let prev_at : slice_index prev x < length prev = s.prev_in x (omega arith) in
    let steps = unlinks next prev x (omega arith) (omega arith)
    (next-prev_in (slice_index next) (slice_index prev) x _ _ _ some ring)
    (prev-next_in (slice_index next) (slice_index prev) x _ _ _ some ring) in
    record {
      next_len = length-set next _ _ ∙ s.next_len;
      prev_len = length-set prev _ _ ∙ s.prev_len;
      next_in = Closed-set next _ _ next_at s.next_in;
      prev_in = Closed-set prev _ _ prev_at s.prev_in;
      joined = λ l list_low.
          let far : length list + l ≢ x = λ e. absurd (omega (arith, e)) in
          (left (slice_index next) (slice_index prev) x _ _ steps (sequence L l) (length list + l) far).beside (length list + l) far (s.joined l list_low);
    }

pub inserts : (next prev : List ℕ) (l x r : ℕ) → l ≢ x → r ≢ x → l < length next → x < length next → x < length prev
    → r < length prev → slice_index next l ≡ r → slice_index prev r ≡ l
    → Inserts (slice_index next) (slice_index prev) l x r (slice_index (next_linked next l x r)) (slice_index (prev_linked prev l x r))
inserts next prev l x r l_x r_x l_low x_low x_prev r_prev forth back = record {
  was_next = forth;
  was_prev = back;
  next_left = off_set (set next l x) x r l l_x ∙ at_set next l x l_low;
  next_at = at_set (set next l x) x r (subst (λ z. x < z) (sym (length-set next l x)) x_low);
  next_off = λ i i_l i_x. off_set (set next l x) x r i i_x ∙ off_set next l x i i_l;
  prev_right = at_set (set prev x l) r x (subst (λ z. r < z) (sym (length-set prev x l)) r_prev);
  prev_at = off_set (set prev x l) r x x (λ e. r_x (sym e)) ∙ at_set prev x l x_prev;
  prev_off = λ i i_r i_x. off_set (set prev x l) r x i i_r ∙ off_set prev x l i i_x;
}

pub sums : {a b c d : ℕ} → a ≡ b → c ≡ d → a + c ≡ b + d
sums {b} {c} e f = ap (λ z. z + c) e ∙ ap (λ z. b + z) f

pub within_set : (list : List ℕ) (x l m : ℕ) → l < m → ((node : ℕ) → node < length list → slice_index list node < m) → (node : ℕ)
    → node < length list → slice_index (set list x l) node < m
within_set list x l m l_low within node low =
    elim (cases_eq node x) [
      | inl e ↦ subst (λ z. z < m) (sym (ap (slice_index (set list x l)) e ∙ at_set list x l (subst (λ z. z < length list) e low))) l_low
      | inr ne ↦ subst (λ z. z < m) (sym (off_set list x l node ne)) (within node low)
    ]

-- how often a node stands on a list after the move, and how many stand there
pub placed_set : (next prev list len : List ℕ) (L : Layout) → Shows next prev list len L → (x l : ℕ) → x < length list → l < length len →
    (M : Layout) → Moved x l L M → (node k : ℕ) → k < length len →
    times node (sequence M k) ≡ cond (ltb node (length (set list x l)) && eqb (slice_index (set list x l) node) k) 1 0
placed_set next prev list len L s x l x_low l_low M moved node k low =
    rw (length-set list x l)
    (elim (cases_eq node x) [
      | inl e ↦ rw (e, lt-ltb x (length list) x_low, at_set list x l x_low)
          (elim (cases_eq l k) [
            | inl f ↦ rw (eq-eqb l k f) (ap (λ z. times x (sequence M z)) (sym f) ∙ moved.again)
            | inr ne ↦ rw (ne_eqb l k ne) (ap (times x) (moved.others k (λ g. ne (sym g))) ∙ times-taken_out x (sequence L k))
          ])
      | inr off ↦ rw (off_set list x l node off)
          (elim (cases_eq k l) [
            | inl f ↦ ap (λ z. times node (sequence M z)) f ∙ moved.kept node off ∙ ap (λ z. times node (sequence L z)) (sym f) ∙ s.placed node k low
            | inr ne ↦ ap (times node) (moved.others k ne) ∙ times-taken_out-other x node (sequence L k) off ∙ s.placed node k low
          ])
    ])

pub counted_set : (next prev list len : List ℕ) (L : Layout) → Shows next prev list len L → (x l : ℕ) → x < length list → l < length len →
    (M : Layout) → Moved x l L M → (k : ℕ) → k < length len →
    slice_index (len_entered len (slice_index list x) l) k ≡ length (sequence M k)
counted_set next prev list len L s x l x_low l_low M moved k low =
    let from_low : slice_index list x < length len = s.within x x_low in
    let once : times x (sequence L (slice_index list x)) ≡ 1 = times-here next prev list len L s x x_low in
    let less_len : length (set len (slice_index list x) (slice_index len (slice_index list x) - 1)) ≡ length len = length-set len _ _ in
    let less : (j : ℕ) → j < length len
    → slice_index (set len (slice_index list x) (slice_index len (slice_index list x) - 1)) j ≡ length (taken_out x (sequence L j))
    = λ j j_low.
    let out : length (taken_out x (sequence L j)) + times x (sequence L j) ≡ length (sequence L j) = length-taken_out x (sequence L j) in
    let was : slice_index len j ≡ length (sequence L j) = s.counted j j_low in
    elim (cases_eq j (slice_index list x)) [
      | inl e ↦
          let here : times x (sequence L j) ≡ 1 = ap (λ z. times x (sequence L z)) e ∙ once in
          let old : slice_index len (slice_index list x) ≡ slice_index len j = ap (slice_index len) (sym e) in
          ap (slice_index _) e ∙ at_set len (slice_index list x) _ from_low ∙ omega (arith, out, was, here, old)
      | inr ne ↦
          let none : times x (sequence L j) ≡ 0 = times-elsewhere next prev list len L s x j x_low j_low (λ f. ne (sym f)) in
          off_set len (slice_index list x) _ j ne ∙ omega (arith, out, was, none)
    ]
    in
    elim (cases_eq k l) [
      | inl e ↦ ap (slice_index _) e ∙ at_set _ l _ (subst (λ z. l < z) (sym less_len) l_low) ∙ add-one _ ∙ ap suc (less l l_low)
          ∙ sym moved.longer ∙ ap (λ z. length (sequence M z)) (sym e)
      | inr ne ↦ off_set _ l _ k ne ∙ less k low ∙ ap length (sym (moved.others k ne))
    ]

-- what is left to show of a move: its rings
pub Shows-moved : (next prev list len : List ℕ) (L : Layout) → Shows next prev list len L → (x l : ℕ) → x < length list → l < length len →
    (M : Layout) → Moved x l L M → (next' prev' : List ℕ) → length next' ≡ length next → length prev' ≡ length prev → Closed next' → Closed prev' →
    ((k : ℕ) → k < length len → Joined (slice_index next') (slice_index prev') (length list + k) (sequence M k) (length list + k)) →
    Shows next' prev' (set list x l) (len_entered len (slice_index list x) l) M
Shows-moved next prev list len L s x l x_low l_low M moved next' prev' next_len prev_len next_in prev_in rings =
    let list_len : length (set list x l) ≡ length list = length-set list x l in
    let from : ℕ = slice_index list x in
    let from_low : slice_index list x < length len = s.within x x_low in
    let less : List ℕ = set len (slice_index list x) (slice_index len (slice_index list x) - 1) in
    let less_len : length (set len (slice_index list x) (slice_index len (slice_index list x) - 1)) ≡ length len = length-set len _ _ in
    let len_len : length (len_entered len (slice_index list x) l) ≡ length len = length-set _ _ _ ∙ length-set len _ _ in
    record {
      next_len = next_len ∙ s.next_len ∙ sums (sym list_len) (sym len_len);
      prev_len = prev_len ∙ s.prev_len ∙ sums (sym list_len) (sym len_len);
      fits = subst (λ z. z < 2 ^ 32) (sums (sym list_len) (sym len_len)) s.fits;
      lists_len = moved.lists ∙ s.lists_len ∙ sym len_len;
      within = λ node low. subst (λ z. slice_index (set list x l) node < z) (sym len_len)
          (within_set list x l (length len) l_low s.within node (subst (λ z. node < z) list_len low));
      next_in = next_in;
      prev_in = prev_in;
      joined = λ k low. subst (λ z. Joined (slice_index next') (slice_index prev') (z + k) (sequence M k) (z + k)) (sym list_len)
          (rings k (subst (λ z. k < z) len_len low));
      placed = λ node k low.
          placed_set next prev list len L s x l x_low l_low M moved node k (subst (λ z. k < z) len_len low);
      counted = λ k low.
          counted_set next prev list len L s x l x_low l_low M moved k (subst (λ z. k < z) len_len low);
    }

-- none of the nodes of a list is a head
pub heads_off : (next prev list len : List ℕ) (L : Layout) → Shows next prev list len L → (x h k : ℕ) → x < length list
    → length list ≤ h → k < length len → Avoids h (taken_out x (sequence L k))
heads_off next prev list len L s x h k x_low high low =
    Avoids-from_times h (taken_out x (sequence L k))
    (times-taken_out-other x h (sequence L k) (λ e. absurd (omega (arith, e))) ∙ times-head next prev list len L s h k high low)
