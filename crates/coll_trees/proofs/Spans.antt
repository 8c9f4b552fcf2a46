-- combinations of ranges of neighbours
use Rattle.std.proofs.Common.{◌≡◌, ℕ, zero, suc, ◌+◌, ◌<◌, ◌≤◌, List, [], ◌∷◌, length, IsTrue, refl, sym, ap, ◌∙◌, arith}
use Rattle.coll_kinds.specs.declared.operation.Op.{Op}
use Rattle.coll_kinds.specs.declared.datatype.Datatype.{Datatype}
use Rattle.coll_kinds.specs.Checks.{allowed}
use Rattle.coll_ops.specs.Combinations.{combined, combination}
use Rattle.coll_ops.specs.Values.{row_of}
use Rattle.coll_ops.specs.Laws.{IsRow}
use Rattle.coll_ops.proofs.RowLists.{length-combined}
use Rattle.coll_ops.proofs.RowBytes.{IsRow-combined}
use Rattle.coll_ops.proofs.Associating.{combinations_associate}

-- the combination of the rows of c members from r on
abbrev pub span : Op → Datatype → (ℕ → List ℕ) → ℕ → ℕ → List ℕ
span op ty given r zero = []
span op ty given r (suc zero) = given r
span op ty given r (suc (suc c)) = combined op ty (given r) (span op ty given (suc r) (suc c))

-- the law of the operation on rows of one length, and that the combination is such a row
pub record Associates (op : Op) (ty : Datatype) : Type 0 where
  pub is_row : (a b : List ℕ) → IsRow ty a → IsRow ty b → length a ≡ length b → IsRow ty (combined op ty a b)
  pub law : (a b c : List ℕ) → IsRow ty a → IsRow ty b → IsRow ty c → length a ≡ length b → length b ≡ length c
      → combined op ty (combined op ty a b) c ≡ combined op ty a (combined op ty b c)

-- every allowed operation keeps it
pub associates : (op : Op) (ty : Datatype) → IsTrue (allowed op ty) → Associates op ty
associates op ty may = record { is_row = λ a b is k e. IsRow-combined op ty a b is; law = combinations_associate op ty may }

module _ (op : Op) (ty : Datatype) (b n : ℕ) (assoc : Associates op ty) (given : ℕ → List ℕ)
    (rows : (p : ℕ) → p < n → IsRow ty (given p) × (length (given p) ≡ b)) where
  -- a span is a row of their length
  span_row : (c r : ℕ) → r + suc c ≤ n → IsRow ty (span op ty given r (suc c)) × (length (span op ty given r (suc c)) ≡ b)
  span_row zero r h = rows r (omega arith)
  span_row (suc c) r h =
      let here = rows r (omega arith) in
      let rest = span_row c (suc r) (omega arith) in (
        assoc.is_row (given r) (span op ty given (suc r) (suc c)) here.0 rest.0 (here.1 ∙ sym rest.1),
        length-combined op ty (given r) (span op ty given (suc r) (suc c)) (here.0).whole ∙ here.1,
      )

  span_split : (c d r : ℕ) → r + (suc c + suc d) ≤ n
      → combined op ty (span op ty given r (suc c)) (span op ty given (r + suc c) (suc d)) ≡ span op ty given r (suc c + suc d)
  span_split zero d r h =
      ap (λ k. combined op ty (given r) (span op ty given k (suc d))) (let z : r + 1 ≡ suc r = omega arith in z)
      ∙ ap (span op ty given r) (let e : suc (suc d) ≡ 1 + suc d = omega arith in e)
  span_split (suc c) d r h =
      let here = rows r (omega arith) in
      let mid = span_row c (suc r) (omega arith) in
      let last = span_row d (r + suc (suc c)) (omega arith) in
      assoc.law (given r) (span op ty given (suc r) (suc c)) (span op ty given (r + suc (suc c)) (suc d)) here.0 mid.0 last.0
      (here.1 ∙ sym mid.1) (mid.1 ∙ sym last.1)
      ∙ (ap (λ k. combined op ty (given r) (combined op ty (span op ty given (suc r) (suc c)) (span op ty given k (suc d))))
      (let z : r + suc (suc c) ≡ suc r + suc c = omega arith in z)
      ∙ (ap (combined op ty (given r)) (span_split c d (suc r) (omega arith))
      ∙ (ap (λ k. combined op ty (given r) (span op ty given (suc r) k)) (let e : suc c + suc d ≡ suc (c + suc d) = omega arith in e)
      ∙ ap (span op ty given r) (let e : suc (suc (c + suc d)) ≡ suc (suc c) + suc d = omega arith in e))))

  pub span_join : (r s m t : ℕ) → 0 < s → 0 < m → s + m ≡ t → r + t ≤ n
      → combined op ty (span op ty given r s) (span op ty given (r + s) m) ≡ span op ty given r t
  span_join r zero m t x y e h = absurd (omega arith)
  span_join r (suc c) zero t x y e h = absurd (omega arith)
  span_join r (suc c) (suc d) t x y e h = span_split c d r (omega arith) ∙ ap (span op ty given r) e

span_shift : (op : Op) (ty : Datatype) (x : List ℕ) (xs : List (List ℕ)) (k c : ℕ) → span op ty (row_of (x ∷ xs)) (suc k) c ≡ span op ty (row_of xs) k c
span_shift op ty x xs k zero = refl
span_shift op ty x xs k (suc zero) = refl
span_shift op ty x xs k (suc (suc c)) = ap (λ r. combined op ty (row_of xs k) r) (span_shift op ty x xs (suc k) (suc c))

-- all members' span is the combination of the list
pub span_all : (op : Op) (ty : Datatype) (given : List (List ℕ)) → span op ty (row_of given) 0 (length given) ≡ combination op ty given
span_all op ty [] = refl
span_all op ty (x ∷ []) = refl
span_all op ty (x ∷ y ∷ xs) = ap (λ r. combined op ty x r) (span_shift op ty x (y ∷ xs) 0 (suc (length xs)) ∙ span_all op ty (y ∷ xs))
