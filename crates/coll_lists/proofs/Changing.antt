-- A move as the code makes it: unlink, find the neighbours, link, enter.
use Rattle.std.proofs.Common.{◌≡◌, ℕ, zero, suc, ◌+◌, ◌-◌, ◌<◌, ◌≤◌, ◌^◌, List, [], ◌∷◌, length, set, sym, ap, subst, ◌∙◌, ◌⊎◌, inl, inr, get_or}
use Rattle.std.proofs.Common.{slice_index, arith, length-append}
use Rattle.std.proofs.lemmas.Bool.{cases_eq}
use Rattle.std.proofs.lemmas.List.{get_or_read, length-set}
use Rattle.std.specs.List.{concat}
use Rattle.coll_lists.specs.Columns.{Joined, Shows, len_entered, walks}
use Rattle.coll_lists.proofs.Linking.{next_linked, next_unlinked, prev_linked, prev_unlinked}
use Rattle.coll_lists.specs.Layouts.{Layout, sequence, size, times}
use Rattle.coll_lists.specs.Moves.{moved_back, moved_front, taken_out}
use Rattle.coll_lists.proofs.Moving.{Shows-back, Shows-front}
use Rattle.coll_lists.proofs.Occurrences.{length-taken_out}
use Rattle.coll_lists.proofs.Reading.{list_in, node_in}
use Rattle.coll_lists.proofs.Rings.{next-prev-to}
use Rattle.coll_lists.proofs.Showing.{Closed, Loose, Loose-unlinked, at_set, off_set, times-here}
use Rattle.coll_lists.proofs.Values.{size-shown, walks-shown}

-- a list is no longer than all together
pub length-sequence : (L : Layout) (l : ℕ) → length (sequence L l) ≤ size L
length-sequence [] l = omega arith
length-sequence (s ∷ rest) zero = omega (arith, length-append s (concat rest))
length-sequence (s ∷ rest) (suc l) = omega (arith, length-append s (concat rest), length-sequence rest l)

-- columns that show a layout, whichever, show what the walks along them give
pub Shows-walks : (next prev list len : List ℕ) (L : Layout) → Shows next prev list len L → Shows next prev list len (walks next (length list) len)
Shows-walks next prev list len L s = subst (λ z. Shows next prev list len z) (sym (walks-shown next prev list len L s)) s

-- the node's list has a node to lose, and every list has room for one more
pub record Roomy (list len : List ℕ) (x l : ℕ) : Type 0 where
  pub node_in : x < length list
  pub from_in : slice_index list x < length len
  pub list_in : l < length len
  pub some : 0 < slice_index len (slice_index list x)
  pub room : slice_index (set len (slice_index list x) (slice_index len (slice_index list x) - 1)) l + 1 < 2 ^ 32

pub Roomy-shown : (next prev list len : List ℕ) (K L : Layout) → Shows next prev list len K → K ≡ L → (x l : ℕ) → x < size L → l < length L → Roomy list len x l
Roomy-shown next prev list len K L s e x l low l_in =
    let x_low : x < length list = node_in next prev list len K L s e x low in
    let l_low : l < length len = list_in next prev list len K L s e l l_in in
    let home : slice_index list x < length len = s.within x x_low in
    let once : times x (sequence K (slice_index list x)) ≡ 1 = times-here next prev list len K s x x_low in
    let out : length (taken_out x (sequence K (slice_index list x))) + times x (sequence K (slice_index list x)) ≡ length (sequence K (slice_index list x)) =
    length-taken_out x (sequence K (slice_index list x)) in
    let counted : slice_index len (slice_index list x) ≡ length (sequence K (slice_index list x)) = s.counted (slice_index list x) home in
    let counted_l : slice_index len l ≡ length (sequence K l) = s.counted l l_low in
    let all : size K ≡ length list = size-shown next prev list len K s in
    let short : length (sequence K l) ≤ size K = length-sequence K l in
    let fits : length list + length len < 2 ^ 32 = s.fits in
    record {
      node_in = x_low;
      from_in = home;
      list_in = l_low;
      some = omega arith;
      room = elim (cases_eq l (slice_index list x)) [
        | inl f ↦
            let is : slice_index (set len (slice_index list x) (slice_index len (slice_index list x) - 1)) l ≡ slice_index len (slice_index list x) - 1 =
            ap (slice_index _) f ∙ at_set len (slice_index list x) _ home in
            let same : slice_index len l ≡ slice_index len (slice_index list x) = ap (slice_index len) f in
            omega arith
        | inr ne ↦
            let is : slice_index (set len (slice_index list x) (slice_index len (slice_index list x) - 1)) l ≡ slice_index len l =
            off_set len (slice_index list x) _ l ne in
            omega arith
      ];
    }

-- a number that was read and kept
pub read_as : (items : List ℕ) (at read kept : ℕ) → kept ≡ read → read ≡ get_or items at read → kept ≡ get_or items at kept
read_as items at read kept is read_is = subst (λ z. z ≡ get_or items at z) (sym is) read_is

-- what is read of a closed column stands in it
pub read_low : (items : List ℕ) (at read : ℕ) → read ≡ get_or items at read → at < length items → Closed items → read < length items
read_low items at read is low closed = subst (λ z. z < length items) (sym (get_or_read items at read low is 0)) (closed at low)

-- a move's reads and writes, under the names of the code: K is what the columns show, L what clauses see
module _ (next prev list len : List ℕ) (K L : Layout) (s : Shows next prev list len K) (e : K ≡ L) (x l : ℕ) (low : x < size L) (l_in : l < length L) where
  pub node_low : x < length list
  node_low = node_in next prev list len K L s e x low

  pub list_low : l < length len
  list_low = list_in next prev list len K L s e l l_in

  pub next_low : x < length next
  next_low = let n : length next ≡ length list + length len = s.next_len in let at : x < length list = node_low in omega arith

  pub prev_low : x < length prev
  prev_low = let n : length prev ≡ length list + length len = s.prev_len in let at : x < length list = node_low in omega arith

  pub lens_shown : (length next ≡ length list + length len) × (length prev ≡ length list + length len)
  lens_shown = (s.next_len, s.prev_len)

  pub before_at : (before : ℕ) → before ≡ get_or prev x before → before ≡ slice_index prev x
  before_at before is = get_or_read prev x before prev_low is 0

  pub behind_at : (behind : ℕ) → behind ≡ get_or next x behind → behind ≡ slice_index next x
  behind_at behind is = get_or_read next x behind next_low is 0

  pub before_low : (before : ℕ) → before ≡ get_or prev x before → before < length next
  before_low before is =
      let at : before ≡ slice_index prev x = before_at before is in
      let within : slice_index prev x < length prev = s.prev_in x prev_low in
      let n : length next ≡ length list + length len = s.next_len in
      let p : length prev ≡ length list + length len = s.prev_len in
      omega arith

  pub behind_low : (behind : ℕ) → behind ≡ get_or next x behind → behind < length prev
  behind_low behind is =
      let at : behind ≡ slice_index next x = behind_at behind is in
      let within : slice_index next x < length next = s.next_in x next_low in
      let n : length next ≡ length list + length len = s.next_len in
      let p : length prev ≡ length list + length len = s.prev_len in
      omega arith

  module _ (before behind head left : ℕ) (before_is : before ≡ get_or prev x before) (behind_is : behind ≡ get_or next x behind)
      (head_is : head ≡ length list + l) where
    pub next_out : set next before behind ≡ next_unlinked next prev x
    next_out = ap (λ z. set next z behind) (before_at before before_is) ∙ ap (set next (slice_index prev x)) (behind_at behind behind_is)

    pub prev_out : set prev behind before ≡ prev_unlinked next prev x
    prev_out = ap (λ z. set prev z before) (behind_at behind behind_is) ∙ ap (set prev (slice_index next x)) (before_at before before_is)

    loose : Loose (next_unlinked next prev x) (prev_unlinked next prev x) list len K x
    loose = Loose-unlinked next prev list len K x s node_low

    pub head_low : head < length (set prev behind before)
    head_low =
        let n : length (set prev behind before) ≡ length prev = length-set prev behind before in
        let p : length prev ≡ length list + length len = s.prev_len in
        let at : l < length len = list_low in
        omega (arith, head_is)

    -- the node on the left is the list's head, or the one before it
    pub last_at : left ≡ get_or (set prev behind before) head left → left ≡ slice_index (prev_unlinked next prev x) (length list + l)
    last_at is =
        get_or_read (set prev behind before) head left head_low is 0 ∙ ap (λ z. slice_index z head) prev_out
        ∙ ap (slice_index (prev_unlinked next prev x)) head_is

    pub left_low : (left ≡ head) ⊎ (left ≡ get_or (set prev behind before) head left) → left < length next
    left_low is =
        let n : length next ≡ length list + length len = s.next_len in
        let p : length (prev_unlinked next prev x) ≡ length list + length len = loose.prev_len in
        let at : l < length len = list_low in
        elim is [
          | inl front ↦ omega (arith, front, head_is)
          | inr back ↦
              let within : slice_index (prev_unlinked next prev x) (length list + l) < length (prev_unlinked next prev x) =
              loose.prev_in (length list + l) (omega arith) in
              let read : left ≡ slice_index (prev_unlinked next prev x) (length list + l) = last_at back in
              omega arith
        ]

    pub right_at : (right : ℕ) → left < length next → right ≡ get_or (set next before behind) left right → right ≡ slice_index (next_unlinked next prev x) left
    right_at right left_in is =
        get_or_read (set next before behind) left right (subst (λ z. left < z) (sym (length-set next before behind)) left_in) is 0
        ∙ ap (λ z. slice_index z left) next_out

    module _ (right : ℕ) (right_is : right ≡ get_or (set next before behind) left right) (next3 prev3 list3 len3 : List ℕ)
        (next3_is : next3 ≡ set (set (set next before behind) left x) x right) (prev3_is : prev3 ≡ set (set (set prev behind before) x left) right x)
        (list3_is : list3 ≡ set list x l) (len3_is : len3 ≡ len_entered len (slice_index list x) l) where
      pub moves_back : left ≡ get_or (set prev behind before) head left → Shows next3 prev3 list3 len3 (moved_back x l L)
      moves_back back =
          let at : left ≡ slice_index (prev_unlinked next prev x) (length list + l) = last_at back in
          let ring : Joined (slice_index (next_unlinked next prev x)) (slice_index (prev_unlinked next prev x)) (length list + l)
          (taken_out x (sequence K l)) (length list + l) = loose.joined l list_low in
          let right_head : right ≡ length list + l =
          right_at right (left_low (inr back)) right_is ∙ ap (slice_index (next_unlinked next prev x)) at
          ∙ next-prev-to _ _ (length list + l) (taken_out x (sequence K l)) (length list + l) ring in
          subst (λ z. Shows next3 prev3 list3 len3 (moved_back x l z)) e
          (subst (λ z. Shows next3 prev3 z len3 (moved_back x l K)) (sym list3_is)
          (subst (λ z. Shows next3 prev3 (set list x l) z (moved_back x l K)) (sym len3_is)
          (Shows-back next prev list len K s x l node_low list_low next3 prev3 left at
          (next3_is ∙ ap (λ z. set (set z left x) x right) next_out ∙ ap (λ z. next_linked (next_unlinked next prev x) left x z) right_head)
          (prev3_is ∙ ap (λ z. set (set z x left) right x) prev_out ∙ ap (λ z. prev_linked (prev_unlinked next prev x) left x z) right_head))))

      pub moves_front : left ≡ head → Shows next3 prev3 list3 len3 (moved_front x l L)
      moves_front front =
          let at : left ≡ length list + l = front ∙ head_is in
          subst (λ z. Shows next3 prev3 list3 len3 (moved_front x l z)) e
          (subst (λ z. Shows next3 prev3 z len3 (moved_front x l K)) (sym list3_is)
          (subst (λ z. Shows next3 prev3 (set list x l) z (moved_front x l K)) (sym len3_is)
          (Shows-front next prev list len K s x l node_low list_low next3 prev3 right
          (right_at right (left_low (inl front)) right_is ∙ ap (slice_index (next_unlinked next prev x)) at)
          (next3_is ∙ ap (λ z. set (set z left x) x right) next_out ∙ ap (λ z. next_linked (next_unlinked next prev x) z x right) at)
          (prev3_is ∙ ap (λ z. set (set z x left) right x) prev_out ∙ ap (λ z. prev_linked (prev_unlinked next prev x) z x right) at))))
