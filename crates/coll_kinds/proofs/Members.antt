-- The members of a group, none of them twice.
use Rattle.std.proofs.Common.{◌≡◌, ℕ, ◌+◌, ◌<◌, ◌≤◌, Bool, true, false, cond, eqb, ltb, List, [], ◌∷◌, ◌++◌, length, get_or, Some, None, refl, ap}
use Rattle.std.proofs.Common.{◌∙◌, arith, inl, inr}
use Rattle.std.specs.List.{list_any, position_or_len, range_with_len}
use Rattle.std.proofs.lemmas.Bool.{cases_lt, eq-eqb, ne_eqb, ltb-true, or_parts, lt-ltb}
use Rattle.std.proofs.lemmas.List.{get_or_append_left, length-append}
use Rattle.std.proofs.lemmas.List.Folds.{position_or_len_push}
use Rattle.std.proofs.lemmas.List.Sums.{position_or_len_is}
use Rattle.std.proofs.lemmas.List.FromFn.{get_or-range_with_len, length-range_with_len}
use Rattle.std.proofs.lemmas.Option.{same_Some}
use Rattle.std.proofs.Math.Seq.{get_or-append_seam}
use Rattle.coll_kinds.specs.Groups.{member_of, IsGroup, is_among}

-- where a member stands is the first place of its rank
pub found_at : (b : Bool) (n m : ℕ) → cond b (Some n) None ≡ Some m → (b ≡ true) × (n ≡ m)
found_at true n m e = (refl, same_Some n m e)
found_at false n m e = absurd cc

pub member_of-place : (rank : ℕ) (group : List ℕ) (m : ℕ) → member_of rank group ≡ Some m → (position_or_len (λ r. eqb r rank) group ≡ m) × (m < length group)
member_of-place rank group m e =
    let at = found_at (ltb (position_or_len (λ r. eqb r rank) group) (length group)) (position_or_len (λ r. eqb r rank) group) m e in
    let lt : position_or_len (λ r. eqb r rank) group < length group = ltb-true _ _ at.0 in
    (at.1, omega (arith, at.1, lt))

member_of-at : (rank : ℕ) (group : List ℕ) (m : ℕ) → position_or_len (λ r. eqb r rank) group ≡ m → m < length group → member_of rank group ≡ Some m
member_of-at rank group m e lt = rw e (let within : ltb m (length group) ≡ true = lt-ltb m (length group) lt in rw within refl)

absent : (rank : ℕ) (group : List ℕ) → is_among rank group ≡ false → position_or_len (λ r. eqb r rank) group ≡ length group
absent rank [] e = refl
absent rank (x ∷ xs) e = let parts = or_parts (eqb x rank) (list_any (λ r. eqb r rank) xs) e in rw parts.0 (omega (arith, absent rank xs parts.1))

length-push : (group : List ℕ) (rank : ℕ) → length (group ++ rank ∷ []) ≡ length group + 1
length-push group rank = length-append group (rank ∷ [])

-- a further member leaves the others where they are
member_of-push : (rank : ℕ) (group : List ℕ) (new m : ℕ) → member_of rank group ≡ Some m → member_of rank (group ++ new ∷ []) ≡ Some m
member_of-push rank group new m e =
    let at = member_of-place rank group m e in
    let short : eqb (position_or_len (λ r. eqb r rank) group) (length group) ≡ false = ne_eqb _ _ (λ same. absurd (omega (arith, at.0, at.1, same))) in
    let place = position_or_len_push (λ r. eqb r rank) group new
    ∙ ap (λ b. cond b (length group + cond (eqb new rank) 0 1) (position_or_len (λ r. eqb r rank) group)) short ∙ at.0 in
    member_of-at rank (group ++ new ∷ []) m place (omega (arith, at.1, length-push group new))

-- and stands last
member_of-new : (group : List ℕ) (new : ℕ) → is_among new group ≡ false → member_of new (group ++ new ∷ []) ≡ Some (length group)
member_of-new group new none =
    let last : eqb (position_or_len (λ r. eqb r new) group) (length group) ≡ true = eq-eqb _ _ (absent new group none) in
    let here : length group + cond (eqb new new) 0 1 ≡ length group = ap (λ b. length group + cond b 0 1) (eq-eqb new new refl) ∙ omega arith in
    let place = position_or_len_push (λ r. eqb r new) group new
    ∙ ap (λ b. cond b (length group + cond (eqb new new) 0 1) (position_or_len (λ r. eqb r new) group)) last ∙ here in
    member_of-at new (group ++ new ∷ []) (length group) place (omega (arith, length-push group new))

-- no members yet
pub IsGroup-none : (n : ℕ) → IsGroup n []
IsGroup-none n = record { few = omega arith; below = λ m lt. absurd (omega arith); found = λ m lt. absurd (omega arith) }

pub IsGroup-push : (n : ℕ) (group : List ℕ) (new : ℕ) → IsGroup n group → new < n → is_among new group ≡ false
    → length group < 64 → IsGroup n (group ++ new ∷ [])
IsGroup-push n group new is lt none room = record {
  few = omega (arith, length-push group new);
  below = λ m within. elim (cases_lt m (length group)) [
    | inl old ↦ rw (get_or_append_left group (new ∷ []) 0 m old) (is.below m old)
    | inr le ↦ let last : m ≡ length group = omega (arith, length-push group new) in rw (last, get_or-append_seam group new [] 0) lt
  ];
  found = λ m within. elim (cases_lt m (length group)) [
    | inl old ↦ rw (get_or_append_left group (new ∷ []) 0 m old) (member_of-push (get_or group m 0) group new m (is.found m old))
    | inr le ↦ let last : m ≡ length group = omega (arith, length-push group new) in rw (last, get_or-append_seam group new [] 0) (member_of-new group new none)
  ];
}

member_of-range : (n rank m : ℕ) → m < n → rank ≡ m → member_of rank (range_with_len 0 n) ≡ Some m
member_of-range n rank m lt e =
    let len = length-range_with_len 0 n in
    member_of-at rank (range_with_len 0 n) m
    (position_or_len_is (λ r. eqb r rank) (range_with_len 0 n) m 0 (omega (arith, len))
    (λ k before. rw (get_or-range_with_len 0 n k 0 (omega arith)) (ne_eqb (0 + k) rank (λ same. absurd (omega (arith, same)))))
    (λ within. rw (get_or-range_with_len 0 n m 0 lt) (eq-eqb (0 + m) rank (omega arith))))
    (omega (arith, len))

-- all ranks below n, in rising order
pub IsGroup-range : (n : ℕ) → n ≤ 64 → IsGroup n (range_with_len 0 n)
IsGroup-range n few =
    let len = length-range_with_len 0 n in
    record {
      few = omega (arith, len);
      below = λ m lt. rw (get_or-range_with_len 0 n m 0 (omega (arith, len))) (omega (arith, len));
      found = λ m lt. rw (get_or-range_with_len 0 n m 0 (omega (arith, len))) (member_of-range n (0 + m) m (omega (arith, len)) (omega arith));
    }
