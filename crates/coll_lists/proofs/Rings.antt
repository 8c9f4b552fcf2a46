-- Linked nodes after one of them is unlinked, and after one is linked in.
use Rattle.std.proofs.Common.{◌≡◌, ◌<◌, cond, arith, ◌≢◌, ℕ, ◌+◌, not, List, [], ◌∷◌, ◌++◌, length, sym, refl, ap, subst, ◌∙◌, inl, inr, eq-eqb}
use Rattle.std.proofs.Common.{ne_eqb, slice_index, zero-add}
use Rattle.std.proofs.lemmas.Bool.{cases_eq}
use Rattle.coll_lists.specs.Columns.{Joined, walk}
use Rattle.coll_lists.specs.Layouts.{times}
use Rattle.coll_lists.specs.Moves.{taken_out}

-- a node at the front is taken out, or stays
pub taken_out-same : (x y : ℕ) (rest : List ℕ) → y ≡ x → taken_out x (y ∷ rest) ≡ taken_out x rest
taken_out-same x y rest e = ap (λ t. cond (not t) (y ∷ taken_out x rest) (taken_out x rest)) (eq-eqb y x e)

pub taken_out-other : (x y : ℕ) (rest : List ℕ) → y ≢ x → taken_out x (y ∷ rest) ≡ y ∷ taken_out x rest
taken_out-other x y rest ne = ap (λ t. cond (not t) (y ∷ taken_out x rest) (taken_out x rest)) (ne_eqb y x ne)

-- none of these nodes is x
abbrev pub Avoids : ℕ → List ℕ → Type 0
Avoids x [] = Unit {0}
Avoids x (a ∷ rest) = (a ≢ x) × Avoids x rest

-- the links m and q are n and p after x was unlinked
pub record Unlinks (n p : ℕ → ℕ) (x : ℕ) (m q : ℕ → ℕ) : Type 0 where
  pub after_left : n (p x) ≡ x
  pub before_right : p (n x) ≡ x
  pub next_at : m (p x) ≡ n x
  pub next_off : (i : ℕ) → i ≢ p x → m i ≡ n i
  pub prev_at : q (n x) ≡ p x
  pub prev_off : (i : ℕ) → i ≢ n x → q i ≡ p i

-- what unlinking leaves of the nodes after `from`: where `from` isn't x, and where x stood before them and `from` before x
pub record Left (n p : ℕ → ℕ) (x : ℕ) (m q : ℕ → ℕ) (nodes : List ℕ) (to : ℕ) : Type 0 where
  pub beside : (from : ℕ) → from ≢ x → Joined n p from nodes to → Joined m q from (taken_out x nodes) to
  pub behind : (from : ℕ) → from ≢ x → p x ≡ from → Joined n p x nodes to → Joined m q from (taken_out x nodes) to

-- the same nodes under another name
pub same_nodes : (m q : ℕ → ℕ) (from to : ℕ) (s t : List ℕ) → t ≡ s → Joined m q from s to → Joined m q from t to
same_nodes m q from to s t e j = subst (λ (z : List ℕ). Joined m q from z to) (sym e) j

pub same_start : (m q : ℕ → ℕ) (from start to : ℕ) (s : List ℕ) → from ≡ start → Joined m q from s to → Joined m q start s to
same_start m q from start to s e j = subst (λ (z : ℕ). Joined m q z s to) e j

pub left : (n p : ℕ → ℕ) (x : ℕ) (m q : ℕ → ℕ) → Unlinks n p x m q → (nodes : List ℕ) (to : ℕ) → to ≢ x → Left n p x m q nodes to
left n p x m q u [] to ne = record {
  beside = λ from away j. (
    u.next_off from (λ e. ne (sym j.0 ∙ ap n e ∙ u.after_left)) ∙ j.0,
    u.prev_off to (λ e. away (sym j.1 ∙ ap p e ∙ u.before_right)) ∙ j.1,
  );
  behind = λ from away e j.
      (ap m (sym e) ∙ u.next_at ∙ j.0, ap q (sym j.0) ∙ u.prev_at ∙ e);
}
left n p x m q u (y ∷ rest) to ne = record {
  beside = λ from away j.
      elim (cases_eq y x) [
        | inl e ↦ same_nodes m q from to _ _ (taken_out-same x y rest e)
            ((left n p x m q u rest to ne).behind from away (ap p (sym e) ∙ j.1)
            (same_start n p y x to rest e j.2))
        | inr off ↦ same_nodes m q from to _ _ (taken_out-other x y rest off) (
          u.next_off from (λ e. off (sym j.0 ∙ ap n e ∙ u.after_left)) ∙ j.0,
          u.prev_off y (λ e. away (sym j.1 ∙ ap p e ∙ u.before_right)) ∙ j.1,
          (left n p x m q u rest to ne).beside y off j.2,
        )
      ];
  behind = λ from away e j.
      elim (cases_eq y x) [
        | inl same ↦ absurd (away (sym e ∙ ap p (sym same) ∙ j.1))
        | inr off ↦ same_nodes m q from to _ _ (taken_out-other x y rest off) (
          ap m (sym e) ∙ u.next_at ∙ j.0,
          ap q (sym j.0) ∙ u.prev_at ∙ e,
          (left n p x m q u rest to ne).beside y off j.2,
        )
      ];
}

-- the links m and q are n and p after x was linked in between l and r
pub record Inserts (n p : ℕ → ℕ) (l x r : ℕ) (m q : ℕ → ℕ) : Type 0 where
  pub was_next : n l ≡ r
  pub was_prev : p r ≡ l
  pub next_left : m l ≡ x
  pub next_at : m x ≡ r
  pub next_off : (i : ℕ) → i ≢ l → i ≢ x → m i ≡ n i
  pub prev_right : q r ≡ x
  pub prev_at : q x ≡ l
  pub prev_off : (i : ℕ) → i ≢ r → i ≢ x → q i ≡ p i

-- links that don't lead to r stay
pub before_r : (n p : ℕ → ℕ) (l x r : ℕ) (m q : ℕ → ℕ) → Inserts n p l x r m q → (from : ℕ) (nodes : List ℕ) (to : ℕ) → from ≢ x
    → to ≢ x → Avoids x nodes → to ≢ r → Avoids r nodes → Joined n p from nodes to → Joined m q from nodes to
before_r n p l x r m q u from [] to from_x to_x _ to_r _ j =
    (u.next_off from (λ e. to_r (sym j.0 ∙ ap n e ∙ u.was_next)) from_x ∙ j.0, u.prev_off to to_r to_x ∙ j.1)
before_r n p l x r m q u from (y ∷ rest) to from_x to_x xs to_r rs j = (
  u.next_off from (λ e. rs.0 (sym j.0 ∙ ap n e ∙ u.was_next)) from_x ∙ j.0,
  u.prev_off y rs.0 xs.0 ∙ j.1,
  before_r n p l x r m q u y rest to xs.0 to_x xs.1 to_r rs.1 j.2,
)

-- links that don't start at l stay
pub behind_l : (n p : ℕ → ℕ) (l x r : ℕ) (m q : ℕ → ℕ) → Inserts n p l x r m q → (from : ℕ) (nodes : List ℕ) (to : ℕ) → from ≢ x
    → to ≢ x → Avoids x nodes → from ≢ l → Avoids l nodes → Joined n p from nodes to → Joined m q from nodes to
behind_l n p l x r m q u from [] to from_x to_x _ from_l _ j =
    (u.next_off from from_l from_x ∙ j.0, u.prev_off to (λ e. from_l (sym j.1 ∙ ap p e ∙ u.was_prev)) to_x ∙ j.1)
behind_l n p l x r m q u from (y ∷ rest) to from_x to_x xs from_l ls j = (
  u.next_off from from_l from_x ∙ j.0,
  u.prev_off y (λ e. from_l (sym j.1 ∙ ap p e ∙ u.was_prev)) xs.0 ∙ j.1,
  behind_l n p l x r m q u y rest to xs.0 to_x xs.1 ls.0 ls.1 j.2,
)

-- x is the last before r
pub put_back : (n p : ℕ → ℕ) (l x r : ℕ) (m q : ℕ → ℕ) → Inserts n p l x r m q → (from : ℕ) (nodes : List ℕ) → from ≢ x
    → Avoids x nodes → Avoids r nodes → Joined n p from nodes r → Joined m q from (nodes ++ x ∷ []) r
put_back n p l x r m q u from [] from_x _ _ j =
    let here : from ≡ l = sym j.1 ∙ u.was_prev in
    (ap m here ∙ u.next_left, u.prev_at ∙ sym here, (u.next_at, u.prev_right))
put_back n p l x r m q u from (y ∷ rest) from_x xs rs j = (
  u.next_off from (λ e. rs.0 (sym j.0 ∙ ap n e ∙ u.was_next)) from_x ∙ j.0,
  u.prev_off y rs.0 xs.0 ∙ j.1,
  put_back n p l x r m q u y rest xs.0 xs.1 rs.1 j.2,
)

-- x is the first after l
pub put_front : (n p : ℕ → ℕ) (l x r : ℕ) (m q : ℕ → ℕ) → Inserts n p l x r m q → (nodes : List ℕ) (to : ℕ) → to ≢ x
    → Avoids x nodes → Avoids l nodes → Joined n p l nodes to → Joined m q l (x ∷ nodes) to
put_front n p l x r m q u [] to to_x _ _ j =
    let here : r ≡ to = sym u.was_next ∙ j.0 in
    (u.next_left, u.prev_at, (u.next_at ∙ here, ap q (sym here) ∙ u.prev_right))
put_front n p l x r m q u (y ∷ rest) to to_x xs ls j =
    let here : r ≡ y = sym u.was_next ∙ j.0 in
    (u.next_left, u.prev_at, (u.next_at ∙ here, ap q (sym here) ∙ u.prev_right, behind_l n p l x r m q u y rest to xs.0 to_x xs.1 ls.0 ls.1 j.2))

-- a walk along joined nodes gives them back
pub walk-joined : (next : List ℕ) (p : ℕ → ℕ) (from : ℕ) (nodes : List ℕ) (to : ℕ) → Joined (slice_index next) p from nodes to
    → walk next from (length nodes) ≡ nodes
walk-joined next p from [] to j = refl
walk-joined next p from (y ∷ rest) to j =
    ap (λ z. z ∷ walk next z (length rest)) j.0 ∙ ap (λ z. y ∷ z) (walk-joined next p y rest to j.2)

-- the links at both ends of joined nodes
pub next-prev-to : (n p : ℕ → ℕ) (from : ℕ) (nodes : List ℕ) (to : ℕ) → Joined n p from nodes to → n (p to) ≡ to
next-prev-to n p from [] to j = ap n j.1 ∙ j.0
next-prev-to n p from (y ∷ rest) to j = next-prev-to n p y rest to j.2

pub prev-next-from : (n p : ℕ → ℕ) (from : ℕ) (nodes : List ℕ) (to : ℕ) → Joined n p from nodes to → p (n from) ≡ from
prev-next-from n p from [] to j = ap p j.0 ∙ j.1
prev-next-from n p from (y ∷ rest) to j = ap p j.0 ∙ j.1

pub prev-to_avoids : (n p : ℕ → ℕ) (x from : ℕ) (nodes : List ℕ) (to : ℕ) → from ≢ x → Avoids x nodes → Joined n p from nodes to → p to ≢ x
prev-to_avoids n p x from [] to ne xs j = λ e. ne (sym j.1 ∙ e)
prev-to_avoids n p x from (y ∷ rest) to ne xs j = prev-to_avoids n p x y rest to xs.0 xs.1 j.2

pub next-from_avoids : (n p : ℕ → ℕ) (x from : ℕ) (nodes : List ℕ) (to : ℕ) → to ≢ x → Avoids x nodes → Joined n p from nodes to → n from ≢ x
next-from_avoids n p x from [] to ne xs j = λ e. ne (sym j.0 ∙ e)
next-from_avoids n p x from (y ∷ rest) to ne xs j = λ e. xs.0 (sym j.0 ∙ e)

-- a node that stands in a ring is linked back by both neighbours
pub next-prev_in : (n p : ℕ → ℕ) (x from : ℕ) (nodes : List ℕ) (to : ℕ) → 0 < times x nodes → Joined n p from nodes to → n (p x) ≡ x
next-prev_in n p x from [] to some j = absurd (omega (arith, some))
next-prev_in n p x from (y ∷ rest) to some j =
    elim (cases_eq y x) [
      | inl e ↦ ap (λ z. n (p z)) (sym e) ∙ ap n j.1 ∙ j.0 ∙ e
      | inr off ↦ next-prev_in n p x y rest to
          (subst (λ z. 0 < z) (ap (λ t. cond t 1 0 + times x rest) (ne_eqb y x off) ∙ zero-add (times x rest)) some) j.2
    ]

pub prev-next_in : (n p : ℕ → ℕ) (x from : ℕ) (nodes : List ℕ) (to : ℕ) → 0 < times x nodes → Joined n p from nodes to → p (n x) ≡ x
prev-next_in n p x from [] to some j = absurd (omega (arith, some))
prev-next_in n p x from (y ∷ rest) to some j =
    elim (cases_eq y x) [
      | inl e ↦ prev-next-from n p x rest to (same_start n p y x to rest e j.2)
      | inr off ↦ prev-next_in n p x y rest to
          (subst (λ z. 0 < z) (ap (λ t. cond t 1 0 + times x rest) (ne_eqb y x off) ∙ zero-add (times x rest)) some) j.2
    ]
