-- Combinations along a list of rows, each made of the one before it.
use Rattle.std.proofs.Common.{◌≡◌, ℕ, zero, suc, ◌+◌, ◌-◌, ◌%◌, ◌<◌, ◌≤◌, List, [], ◌∷◌, ◌++◌, length, take, get_or, map, refl, ap, sym, subst, ◌∙◌}
use Rattle.std.proofs.Common.{arith, add-one, length-take, Vec, Global, min}
use Rattle.std.specs.Bool.{IsTrue}
use Rattle.std.specs.List.{range_with_len}
use Rattle.std.proofs.lemmas.Option.{unwrap_or-slice_get}
use Rattle.std.proofs.lemmas.List.{take-take}
use Rattle.std.proofs.lemmas.List.FromFn.{length-map-range_with_len, get_or-map-range_with_len, map-range_with_len_more}
use Rattle.coll_kinds.specs.declared.operation.Op.{Op}
use Rattle.coll_kinds.specs.declared.datatype.Datatype.{Datatype}
use Rattle.coll_kinds.specs.Common.{width, AreBytes, allowed}
use Rattle.coll_ops.specs.Combinations.{combined, combination}
use Rattle.coll_ops.specs.Laws.{IsRow}
use Rattle.coll_ops.specs.Values.{row_of}
use Rattle.coll_ops.specs.Contributions.{rows_of}
use Rattle.coll_ops.proofs.RowBytes.{IsRow-combined}
use Rattle.coll_ops.proofs.RowLists.{length-combination, length-rows_of}
use Rattle.coll_ops.proofs.Given.{row_of-take}
use Rattle.coll_ops.proofs.Associating.{combinations_associate}

-- rows of whole elements, and of one length
pub record AreAlike (ty : Datatype) (len : ℕ) (rows : List (List ℕ)) : Type 0 where
  pub each : (i : ℕ) → i < length rows → IsRow ty (row_of rows i)
  pub long : (i : ℕ) → i < length rows → length (row_of rows i) ≡ len

AreAlike-rest : (ty : Datatype) (len : ℕ) (row : List ℕ) (rows : List (List ℕ)) → AreAlike ty len (row ∷ rows) → AreAlike ty len rows
AreAlike-rest ty len row rows are = record {
  each = λ i within. are.each (suc i) (omega arith);
  long = λ i within. are.long (suc i) (omega arith);
}

-- their combination is such a row
IsRow-combination : (op : Op) (ty : Datatype) (len : ℕ) (rows : List (List ℕ)) → 0 < length rows → AreAlike ty len rows → IsRow ty (combination op ty rows)
IsRow-combination op ty len [] some are = absurd (omega arith)
IsRow-combination op ty len (row ∷ []) some are = are.each 0 (omega arith)
IsRow-combination op ty len (row ∷ next ∷ rows) some are = IsRow-combined op ty row (combination op ty (next ∷ rows)) (are.each 0 (omega arith))

-- one more row at the end is the right operand
pub combination-append : (op : Op) (ty : Datatype) (len : ℕ) (rows : List (List ℕ)) (row : List ℕ) → IsTrue (allowed op ty)
    → 0 < length rows → AreAlike ty len rows → IsRow ty row → length row ≡ len →
    combination op ty (rows ++ row ∷ []) ≡ combined op ty (combination op ty rows) row
combination-append op ty len [] row may some are is long = absurd (omega arith)
combination-append op ty len (first ∷ []) row may some are is long = refl
combination-append op ty len (first ∷ next ∷ rows) row may some are is long =
    let rest : AreAlike ty len (next ∷ rows) = AreAlike-rest ty len first (next ∷ rows) are in
    let sum : List ℕ = combination op ty (next ∷ rows) in
    let sum_long : length sum ≡ len = length-combination op ty len (next ∷ rows) (ap (λ n. n % width ty) (sym long) ∙ is.whole) (omega arith) rest.long in
    ap (combined op ty first) (combination-append op ty len (next ∷ rows) row may (omega arith) rest is long)
    ∙ sym (combinations_associate op ty may first sum row (are.each 0 (omega arith)) (IsRow-combination op ty len (next ∷ rows) (omega arith) rest) is
    (are.long 0 (omega arith) ∙ sym sum_long) (sum_long ∙ sym long))

-- the rows up to one, combined
abbrev pub prefix : Op → Datatype → List (List ℕ) → ℕ → List ℕ
prefix op ty rows r = combination op ty (take (r + 1) rows)

row_of-get_or : (rows : List (List ℕ)) (i : ℕ) → row_of rows i ≡ get_or rows i []
row_of-get_or rows i = unwrap_or-slice_get rows i []

take-more : (rows : List (List ℕ)) (i : ℕ) → i < length rows → take (suc i) rows ≡ take i rows ++ row_of rows i ∷ []
take-more [] i within = absurd (omega arith)
take-more (row ∷ rows) zero within = refl
take-more (row ∷ rows) (suc i) within = ap (λ rest. row ∷ rest) (take-more rows i (omega arith))

-- rows of one length, of which the first hold bytes
pub record AreRead (ty : Datatype) (len read : ℕ) (rows : List (List ℕ)) : Type 0 where
  pub whole : len % width ty ≡ 0
  pub long : (i : ℕ) → i < length rows → length (row_of rows i) ≡ len
  pub bytes : (i : ℕ) → i < read → AreBytes (row_of rows i)

AreAlike-take : (ty : Datatype) (len read k : ℕ) (rows : List (List ℕ)) → AreRead ty len read rows → k ≤ read → AreAlike ty len (take k rows)
AreAlike-take ty len read k rows are le = record { each = each; long = long }
  where
    below : (i : ℕ) → i < length (take k rows) → (i < k) × (i < length rows)
    below i within = let at : i < min k (length rows) = rw length-take at within in (omega arith, omega arith)

    long : (i : ℕ) → i < length (take k rows) → length (row_of (take k rows) i) ≡ len
    long i within = ap length (row_of-take rows k i within) ∙ are.long i (below i within).1

    each : (i : ℕ) → i < length (take k rows) → IsRow ty (row_of (take k rows) i)
    each i within = record {
      whole = ap (λ n. n % width ty) (long i within) ∙ are.whole;
      bytes = subst AreBytes (sym (row_of-take rows k i within)) (are.bytes i (let lt = (below i within).0 in omega arith));
    }

pub length-prefix : (op : Op) (ty : Datatype) (len read k : ℕ) (rows : List (List ℕ)) → AreRead ty len read rows → k < read
    → k < length rows → length (prefix op ty rows k) ≡ len
length-prefix op ty len read k rows are lt within =
    length-combination op ty len (take (k + 1) rows) are.whole (simp length-take (omega arith)) (AreAlike-take ty len read (k + 1) rows are (omega arith)).long

-- the first row alone
prefix-first : (op : Op) (ty : Datatype) (rows : List (List ℕ)) → 0 < length rows → prefix op ty rows 0 ≡ row_of rows 0
prefix-first op ty [] some = absurd (omega arith)
prefix-first op ty (row ∷ rows) some = refl

-- the row after a prefix is the right operand
prefix-next : (op : Op) (ty : Datatype) (len i : ℕ) (rows : List (List ℕ)) → IsTrue (allowed op ty) → AreRead ty len i rows
    → 0 < i → i < length rows → AreBytes (row_of rows i) →
    prefix op ty rows i ≡ combined op ty (prefix op ty rows (i - 1)) (row_of rows i)
prefix-next op ty len i rows may are some within bytes =
    let long : length (row_of rows i) ≡ len = are.long i within in
    let back : i - 1 + 1 ≡ i = omega arith in
    ap (λ k. combination op ty (take k rows)) (add-one i)
    ∙ (ap (combination op ty) (take-more rows i within)
    ∙ (combination-append op ty len (take i rows) (row_of rows i) may (simp length-take (omega arith)) (AreAlike-take ty len i i rows are (omega arith))
    (record { whole = ap (λ n. n % width ty) long ∙ are.whole; bytes = bytes }) long
    ∙ ap (λ k. combined op ty (combination op ty (take k rows)) (row_of rows i)) (sym back)))

-- ---- a list of values, by the numbers

pub length-made : (f : ℕ → List ℕ) (made : List (Vec ℕ Global)) (n : ℕ) → rows_of made ≡ map f (range_with_len 0 n) → length made ≡ n
length-made f made n is = sym (length-rows_of made) ∙ (ap length is ∙ length-map-range_with_len f 0 n)

row_of-range : (f : ℕ → List ℕ) (n i : ℕ) → i < n → row_of (map f (range_with_len 0 n)) i ≡ f i
row_of-range f n i lt = row_of-get_or (map f (range_with_len 0 n)) i ∙ get_or-map-range_with_len f 0 n i i [] lt (omega arith)

pub row_of-made : (f : ℕ → List ℕ) (made : List (Vec ℕ Global)) (n i : ℕ) → rows_of made ≡ map f (range_with_len 0 n) → i < n → row_of (rows_of made) i ≡ f i
row_of-made f made n i is lt = ap (λ rows. row_of rows i) is ∙ row_of-range f n i lt

-- one more
pub rows_of-more : (f : ℕ → List ℕ) (made : List (Vec ℕ Global)) (n : ℕ) (v : Vec ℕ Global)
    → rows_of made ≡ map f (range_with_len 0 n) → v.items ≡ f n → rows_of (made ++ v ∷ []) ≡ map f (range_with_len 0 (n + 1))
rows_of-more f made n v is row =
    rows_of-append made v ∙ (ap (λ rows. rows ++ v.items ∷ []) is
    ∙ (ap (λ last. map f (range_with_len 0 n) ++ last ∷ []) row ∙ sym (map-range_with_len_more f 0 n n (omega arith))))
  where
    rows_of-append : (rows : List (Vec ℕ Global)) (v : Vec ℕ Global) → rows_of (rows ++ v ∷ []) ≡ rows_of rows ++ v.items ∷ []
    rows_of-append [] v = refl
    rows_of-append (row ∷ rows) v = ap (λ rest. row.items ∷ rest) (rows_of-append rows v)

-- the values of the numbers from one further on
map-range_shifted : (f g : ℕ → List ℕ) (a n : ℕ) → ((k : ℕ) → a ≤ k → k < a + n → f k ≡ g (k + 1))
    → map f (range_with_len a n) ≡ map g (range_with_len (a + 1) n)
map-range_shifted f g a zero same = refl
map-range_shifted f g a (suc n) same =
    ap (λ first. first ∷ map f (range_with_len (a + 1) n)) (same a (omega arith) (omega arith))
    ∙ ap (λ rest. g (a + 1) ∷ rest) (map-range_shifted f g (a + 1) n (λ k le lt. same k (omega arith) (omega arith)))

-- ---- one turn of the loop over the rows

-- the sum is the first row, or the last sum with the row
pub prefix-made : (op : Op) (ty : Datatype) (len n : ℕ) (rows : List (List ℕ)) (sums : List (Vec ℕ Global)) (row sum : List ℕ)
    → IsTrue (allowed op ty) → AreRead ty len n rows → n < length rows →
    rows_of sums ≡ map (prefix op ty rows) (range_with_len 0 n) → row ≡ row_of rows n → AreBytes row →
    (length sums ≡ 0 → sum ≡ row) → (0 < length sums → sum ≡ combined op ty (row_of (rows_of sums) (length sums - 1)) row) → sum ≡ prefix op ty rows n
prefix-made op ty len zero rows sums row sum may are within is row_is bytes first next =
    first (length-made (prefix op ty rows) sums 0 is) ∙ (row_is ∙ sym (prefix-first op ty rows within))
prefix-made op ty len (suc n) rows sums row sum may are within is row_is bytes first next =
    let count : length sums ≡ suc n = length-made (prefix op ty rows) sums (suc n) is in
    let last : row_of (rows_of sums) (length sums - 1) ≡ prefix op ty rows (suc n - 1) =
    ap (λ k. row_of (rows_of sums) (k - 1)) count ∙ row_of-made (prefix op ty rows) sums (suc n) (suc n - 1) is (omega arith) in
    next (omega arith)
    ∙ (ap (λ left. combined op ty left row) last
    ∙ (ap (combined op ty (prefix op ty rows (suc n - 1))) row_is
    ∙ sym (prefix-next op ty len (suc n) rows may are (omega arith) within (subst AreBytes row_is bytes))))

-- ---- the prefixes without a row's own

pub prefixes-exclusive : (op : Op) (ty : Datatype) (n : ℕ) (rows : List (List ℕ))
    → [] ∷ map (prefix op ty (take n rows)) (range_with_len 0 n) ≡ map (λ r. combination op ty (take r rows)) (range_with_len 0 (suc n))
prefixes-exclusive op ty n rows =
    ap (λ rest. [] ∷ rest) (map-range_shifted (prefix op ty (take n rows)) (λ r. combination op ty (take r rows)) 0 n
    (λ k le lt. ap (combination op ty) (take-take (k + 1) n rows (omega arith))))
