-- Lists that columns show read alike forwards and backwards.
use Rattle.std.proofs.Common.{◌≡◌, ℕ, ◌+◌, ◌<◌, ◌≤◌, List, [], ◌∷◌, ◌++◌, length, reverse, Option, sym, refl, ap, subst, ◌∙◌, inl, inr, slice_index}
use Rattle.std.proofs.Common.{arith, add_comm}
use Rattle.std.proofs.lemmas.Bool.{cases_eq}
use Rattle.std.proofs.lemmas.List.{reverse-append}
use Rattle.coll_lists.specs.Columns.{Joined, Shows, node_at}
use Rattle.coll_lists.specs.Layouts.{Layout, sequence, times}
use Rattle.coll_lists.specs.WellLinked.{Follows, IsWellLinked, nodes_of, reads}
use Rattle.coll_lists.specs.declared.columns.Columns.{Columns}
use Rattle.coll_lists.proofs.Occurrences.{times-append, times-other, times-same}
use Rattle.coll_lists.proofs.Showing.{times-head}
use Rattle.coll_lists.proofs.Values.{Inside, Inside-times, list_of-shown, node_at-high, node_at-low}

-- following the links of joined nodes gives them
pub Follows-joined : (n p : ℕ → ℕ) (f : ℕ → Option ℕ) (from : ℕ) (s : List ℕ) (to k : ℕ) → k ≤ to → Inside k s
    → ((y : ℕ) → 0 < times y s → f y ≡ node_at k (n y)) → Joined n p from s to → Follows f (node_at k (n from)) s
Follows-joined n p f from [] to k high low is j = ap (node_at k) j.0 ∙ node_at-high k to high
Follows-joined n p f from (y ∷ rest) to k high low is j = (
  ap (node_at k) j.0 ∙ node_at-low k y low.0,
  subst (λ z. Follows f z rest) (sym (is y (subst (λ z. 0 < z) (sym (times-same y y rest refl)) (omega arith))))
      (Follows-joined n p f y rest to k high low.1
      (λ z some. is z (elim (cases_eq y z) [
        | inl e ↦ subst (λ i. 0 < i) (sym (times-same z y rest e)) (omega arith)
        | inr ne ↦ subst (λ i. 0 < i) (sym (times-other z y rest ne)) some
      ])) j.2),
)

-- joined nodes the other way round
pub Joined-push : (n p : ℕ → ℕ) (from : ℕ) (s : List ℕ) (y to : ℕ) → Joined n p from s y → n y ≡ to → p to ≡ y → Joined n p from (s ++ y ∷ []) to
Joined-push n p from [] y to j forth back = (j.0, j.1, (forth, back))
Joined-push n p from (z ∷ rest) y to j forth back = (j.0, j.1, Joined-push n p z rest y to j.2 forth back)

pub Joined-reverse : (n p : ℕ → ℕ) (from : ℕ) (s : List ℕ) (to : ℕ) → Joined n p from s to → Joined p n to (reverse s) from
Joined-reverse n p from [] to j = (j.1, j.0)
Joined-reverse n p from (y ∷ rest) to j =
    subst (λ z. Joined p n to z from) (sym (reverse-append (y ∷ []) rest)) (Joined-push p n to (reverse rest) y from (Joined-reverse n p y rest to j.2) j.1 j.0)

pub times-reverse : (x : ℕ) (s : List ℕ) → times x (reverse s) ≡ times x s
times-reverse x [] = refl
times-reverse x (y ∷ rest) =
    ap (times x) (reverse-append (y ∷ []) rest)
    ∙ times-append x (reverse rest) (y ∷ []) ∙ ap (λ z. z + times x (y ∷ [])) (times-reverse x rest)
    ∙ elim (cases_eq y x) [
      | inl e ↦ ap (λ z. times x rest + z) (times-same x y [] e) ∙ add_comm (times x rest) 1 ∙ sym (times-same x y rest e ∙ omega arith)
      | inr ne ↦ ap (λ z. times x rest + z) (times-other x y [] ne) ∙ omega arith ∙ sym (times-other x y rest ne)
    ]

pub IsWellLinked-shown : (c : Columns) (L : Layout) → Shows c.next.items c.prev.items c.list.items c.len.items L → (l : ℕ) → l < length L → IsWellLinked c L l
IsWellLinked-shown c L s l low =
    let l_low : l < length c.len.items = subst (λ z. l < z) s.lists_len low in
    let ring : Joined (slice_index c.next.items) (slice_index c.prev.items) (length c.list.items + l) (sequence L l) (length c.list.items + l) =
    s.joined l l_low in
    let none : (x : ℕ) → length c.list.items ≤ x
    → times x (sequence L l) ≡ 0 = λ x high. times-head c.next.items c.prev.items c.list.items c.len.items L s x l high l_low in
    record {
      forwards = Follows-joined (slice_index c.next.items) (slice_index c.prev.items) (reads (nodes_of c) c.next.items)
          (length c.list.items + l) (sequence L l) (length c.list.items + l) (length c.list.items) (omega arith)
          (Inside-times (length c.list.items) (sequence L l) none) (λ y some. refl) ring;
      backwards = Follows-joined (slice_index c.prev.items) (slice_index c.next.items) (reads (nodes_of c) c.prev.items)
          (length c.list.items + l) (reverse (sequence L l)) (length c.list.items + l) (length c.list.items) (omega arith)
          (Inside-times (length c.list.items) (reverse (sequence L l)) (λ x high. times-reverse x (sequence L l) ∙ none x high)) (λ y some. refl)
          (Joined-reverse (slice_index c.next.items) (slice_index c.prev.items) (length c.list.items + l) (sequence L l) (length c.list.items + l) ring);
      counted = s.counted l l_low;
      listed = λ node node_low. sym (list_of-shown c.next.items c.prev.items c.list.items c.len.items L s node node_low);
    }
