-- Elements of a type and their bits.
use Rattle.std.proofs.Common.{◌≡◌, ℕ, zero, suc, ◌*◌, ◌+◌, ◌%◌, ◌^◌, ◌<◌, ℤ, pos, ◌+ℤ◌, ◌*ℤ◌, List, ◌++◌, ◌/◌, ◌⊎◌, inl, inr, false, refl, arith, ap}
use Rattle.std.proofs.Common.{sym, ◌∙◌, add-one, subst}
use Rattle.std.specs.Prelude.{slice_index, not}
use Rattle.std.specs.Bool.{IsTrue}
use Rattle.std.proofs.lemmas.Bool.{and_parts, and_from, false≢true}
use Rattle.std.specs.Int.{cast_unsigned}
use Rattle.std.proofs.lemmas.Nat.{pow-add}
use Rattle.std.proofs.lemmas.Grind.{pow_more}
use Rattle.byteorder.specs.Endian.{little_number}
use Rattle.byteorder.specs.Numbers.{little_number-reads_back, little_from-lt}
use Rattle.coll_kinds.specs.declared.datatype.Datatype.{Datatype}
use Rattle.coll_kinds.specs.declared.datatype.Datatype.TheVariants.{I8, I16, I32, I64, U8, U16, U32, U64, Byte, Pair}
use Rattle.coll_kinds.specs.Elements.{Element, whole, pair, width, word, is_signed, is_pair, limit, in_range, number_of, IsElement, element_of}
use Rattle.coll_kinds.specs.Elements.{element_at, bits, element_bytes}
use Rattle.coll_ops.specs.Operations.{wrapped}
use Rattle.coll_ops.proofs.Bits.{HasBits, limit_by-some, cast_unsigned-element_by, is_element_by-element_by, cast_unsigned-lt_by}
use Rattle.coll_ops.proofs.Bits.{element_by-cast_unsigned, is_element_by-wrapped_by, cast_unsigned-wrapped_sum, cast_unsigned-wrapped_product}
use Rattle.coll_ops.proofs.Bits.{cast_unsigned-wrapped_pos}

abbrev pub InRange : Datatype → ℤ → Type 0
InRange ty z = IsTrue (in_range ty z)

-- a type's machine word has the type's bits
pub HasBits-word : (ty : Datatype) → HasBits (word ty) (8 * width ty)
HasBits-word I8 = record { some = omega arith; most = omega arith; all = refl; half = refl }
HasBits-word I16 = record { some = omega arith; most = omega arith; all = refl; half = refl }
HasBits-word I32 = record { some = omega arith; most = omega arith; all = refl; half = refl }
HasBits-word I64 = record { some = omega arith; most = omega arith; all = refl; half = refl }
HasBits-word U8 = record { some = omega arith; most = omega arith; all = refl; half = refl }
HasBits-word U16 = record { some = omega arith; most = omega arith; all = refl; half = refl }
HasBits-word U32 = record { some = omega arith; most = omega arith; all = refl; half = refl }
HasBits-word U64 = record { some = omega arith; most = omega arith; all = refl; half = refl }
HasBits-word Byte = record { some = omega arith; most = omega arith; all = refl; half = refl }
HasBits-word Pair = record { some = omega arith; most = omega arith; all = refl; half = refl }

pub width-some : (ty : Datatype) → 0 < width ty
width-some ty = let some = (HasBits-word ty).some in omega arith

pub limit-some : (ty : Datatype) → 1 < limit ty
limit-some ty = limit_by-some (is_signed ty) (8 * width ty) (HasBits-word ty).some

pow-bytes : (n : ℕ) → 256 ^ n ≡ 2 ^ (8 * n)
pow-bytes zero = refl
pow-bytes (suc n) =
    let e : 8 * suc n ≡ 8 * n + 8 = omega arith in
    ap (λ k. 256 ^ k) (sym (add-one n)) ∙ (pow_more 256 n ∙ (ap (λ k. k * 256) (pow-bytes n) ∙ (sym (pow-add 2 (8 * n) 8) ∙ ap (λ k. 2 ^ k) (sym e))))

-- the numbers of a type's bytes are those of its bits
pub pow-width : (ty : Datatype) → 256 ^ width ty ≡ 2 ^ (8 * width ty)
pow-width ty = pow-bytes (width ty)

pub cast_unsigned-number_of : (ty : Datatype) (n : ℕ) → n < 256 ^ width ty → cast_unsigned (word ty) (number_of ty n) ≡ n
cast_unsigned-number_of ty n h = cast_unsigned-element_by (is_signed ty) (word ty) (8 * width ty) n (HasBits-word ty) (rw (sym (pow-width ty)) h)

-- bits of the type's width are those of a number in its range
pub InRange-number_of : (ty : Datatype) (n : ℕ) → n < 256 ^ width ty → InRange ty (number_of ty n)
InRange-number_of ty n h = is_element_by-element_by (is_signed ty) (word ty) (8 * width ty) n (HasBits-word ty) (rw (sym (pow-width ty)) h)

pub cast_unsigned-lt : (ty : Datatype) (z : ℤ) → InRange ty z → cast_unsigned (word ty) z < 256 ^ width ty
cast_unsigned-lt ty z h = rw (pow-width ty) (cast_unsigned-lt_by (is_signed ty) (word ty) (8 * width ty) z (HasBits-word ty) h)

pub number_of-cast_unsigned : (ty : Datatype) (z : ℤ) → InRange ty z → number_of ty (cast_unsigned (word ty) z) ≡ z
number_of-cast_unsigned ty z h = element_by-cast_unsigned (is_signed ty) (word ty) (8 * width ty) z (HasBits-word ty) h

-- a wrapped number is in the range
pub InRange-wrapped : (ty : Datatype) (z : ℤ) → InRange ty (wrapped ty z)
InRange-wrapped ty z = is_element_by-wrapped_by (is_signed ty) (word ty) (8 * width ty) z (HasBits-word ty)

-- the bits of sums, products and patterns, wrapped
pub cast_unsigned-sum : (ty : Datatype) (m n : ℕ) → m < 256 ^ width ty → n < 256 ^ width ty
    → cast_unsigned (word ty) (wrapped ty (number_of ty m +ℤ number_of ty n)) ≡ (m + n) % 2 ^ (8 * width ty)
cast_unsigned-sum ty m n left right =
    cast_unsigned-wrapped_sum (is_signed ty) (word ty) (8 * width ty) m n (HasBits-word ty) (rw (sym (pow-width ty)) left) (rw (sym (pow-width ty)) right)

pub cast_unsigned-product : (ty : Datatype) (m n : ℕ) → m < 256 ^ width ty → n < 256 ^ width ty
    → cast_unsigned (word ty) (wrapped ty (number_of ty m *ℤ number_of ty n)) ≡ (m * n) % 2 ^ (8 * width ty)
cast_unsigned-product ty m n left right =
    cast_unsigned-wrapped_product (is_signed ty) (word ty) (8 * width ty) m n (HasBits-word ty) (rw (sym (pow-width ty)) left) (rw (sym (pow-width ty)) right)

pub cast_unsigned-pattern : (ty : Datatype) (n : ℕ) → n < 256 ^ width ty → cast_unsigned (word ty) (wrapped ty (pos n)) ≡ n
cast_unsigned-pattern ty n h = cast_unsigned-wrapped_pos (is_signed ty) (word ty) (8 * width ty) n (HasBits-word ty) (rw (sym (pow-width ty)) h)

-- ---- elements

-- a type is of whole numbers, or of pairs
pub whole_or_pair : (ty : Datatype) → (is_pair ty ≡ false) ⊎ (ty ≡ Pair)
whole_or_pair I8 = inl refl
whole_or_pair I16 = inl refl
whole_or_pair I32 = inl refl
whole_or_pair I64 = inl refl
whole_or_pair U8 = inl refl
whole_or_pair U16 = inl refl
whole_or_pair U32 = inl refl
whole_or_pair U64 = inl refl
whole_or_pair Byte = inl refl
whole_or_pair Pair = inr refl

pub element_of-whole : (ty : Datatype) (n : ℕ) → is_pair ty ≡ false → element_of ty n ≡ whole (number_of ty n)
element_of-whole ty n e = rw e refl

pub IsElement-whole : (ty : Datatype) (z : ℤ) → is_pair ty ≡ false → InRange ty z → IsElement ty (whole z)
IsElement-whole ty z e h = rw e h

-- an element of such a type is a whole number in its range
pub whole-IsElement : (ty : Datatype) (x : Element) → is_pair ty ≡ false → IsElement ty x → (z : ℤ) × (x ≡ whole z) × InRange ty z
whole-IsElement ty (whole z) e h = (z, refl, (and_parts (not (is_pair ty)) (in_range ty z) h).1)
whole-IsElement ty (pair z at) e h = absurd (false≢true (sym e ∙ (and_parts (is_pair ty) _ h).0))

-- the bits of a pair, taken apart
low_bits : (m n : ℕ) → m < 2 ^ 32 → (m + 2 ^ 32 * n) % 2 ^ 32 ≡ m
low_bits m n h = omega (arith, h)

high_bits : (m n : ℕ) → m < 2 ^ 32 → (m + 2 ^ 32 * n) / 2 ^ 32 ≡ n
high_bits m n h = omega (arith, h)

pub bits-element_of : (ty : Datatype) (n : ℕ) → n < 256 ^ width ty → bits ty (element_of ty n) ≡ n
bits-element_of ty n h = go (whole_or_pair ty)
  where
    of_pair : n < 256 ^ 8 → bits Pair (element_of Pair n) ≡ n
    of_pair h = omega (arith, cast_unsigned-number_of I32 (n % 2 ^ 32) (omega arith), cast_unsigned-number_of I32 (n / 2 ^ 32) (omega (arith, h)))

    go : (is_pair ty ≡ false) ⊎ (ty ≡ Pair) → bits ty (element_of ty n) ≡ n
    go (inl e) = ap (bits ty) (element_of-whole ty n e) ∙ cast_unsigned-number_of ty n h
    go (inr e) = subst (λ (t : Datatype). bits t (element_of t n) ≡ n) (sym e) (of_pair (subst (λ (t : Datatype). n < 256 ^ width t) e h))

pub IsElement-element_of : (ty : Datatype) (n : ℕ) → n < 256 ^ width ty → IsElement ty (element_of ty n)
IsElement-element_of ty n h = go (whole_or_pair ty)
  where
    of_pair : n < 256 ^ 8 → IsElement Pair (element_of Pair n)
    of_pair h = and_from _ _ (InRange-number_of I32 (n % 2 ^ 32) (omega arith)) (InRange-number_of I32 (n / 2 ^ 32) (omega (arith, h)))

    go : (is_pair ty ≡ false) ⊎ (ty ≡ Pair) → IsElement ty (element_of ty n)
    go (inl e) = subst (IsElement ty) (sym (element_of-whole ty n e)) (IsElement-whole ty (number_of ty n) e (InRange-number_of ty n h))
    go (inr e) = subst (λ (t : Datatype). IsElement t (element_of t n)) (sym e) (of_pair (subst (λ (t : Datatype). n < 256 ^ width t) e h))

pub bits-lt : (ty : Datatype) (x : Element) → IsElement ty x → bits ty x < 256 ^ width ty
bits-lt ty x h = go (whole_or_pair ty)
  where
    of_pair : (x : Element) → IsElement Pair x → bits Pair x < 256 ^ 8
    of_pair (whole z) h = absurd (false≢true h)
    of_pair (pair z at) h =
        let parts = and_parts (in_range I32 z) (in_range I32 at) h in
        omega (arith, cast_unsigned-lt I32 z parts.0, cast_unsigned-lt I32 at parts.1)

    go : (is_pair ty ≡ false) ⊎ (ty ≡ Pair) → bits ty x < 256 ^ width ty
    go (inl e) = let found = whole-IsElement ty x e h in subst (λ (y : Element). bits ty y < 256 ^ width ty) (sym found.1) (cast_unsigned-lt ty found.0 found.2)
    go (inr e) = subst (λ (t : Datatype). bits t x < 256 ^ width t) (sym e) (of_pair x (subst (λ (t : Datatype). IsElement t x) e h))

pub element_of-bits : (ty : Datatype) (x : Element) → IsElement ty x → element_of ty (bits ty x) ≡ x
element_of-bits ty x h = go (whole_or_pair ty)
  where
    of_pair : (x : Element) → IsElement Pair x → element_of Pair (bits Pair x) ≡ x
    of_pair (whole z) h = absurd (false≢true h)
    of_pair (pair z at) h =
        let parts = and_parts (in_range I32 z) (in_range I32 at) h in
        let low = low_bits (cast_unsigned (word I32) z) (cast_unsigned (word I32) at) (cast_unsigned-lt I32 z parts.0) in
        let high = high_bits (cast_unsigned (word I32) z) (cast_unsigned (word I32) at) (cast_unsigned-lt I32 z parts.0) in
        ap (λ n. pair (number_of I32 n) (number_of I32 (bits Pair (pair z at) / 2 ^ 32))) low
        ∙ (ap (λ n. pair (number_of I32 (cast_unsigned (word I32) z)) (number_of I32 n)) high
        ∙ (ap (λ y. pair y (number_of I32 (cast_unsigned (word I32) at))) (number_of-cast_unsigned I32 z parts.0)
        ∙ ap (pair z) (number_of-cast_unsigned I32 at parts.1)))

    go : (is_pair ty ≡ false) ⊎ (ty ≡ Pair) → element_of ty (bits ty x) ≡ x
    go (inl e) =
        let found = whole-IsElement ty x e h in
        subst (λ (y : Element). element_of ty (bits ty y) ≡ y) (sym found.1)
        (element_of-whole ty (cast_unsigned (word ty) found.0) e ∙ ap whole (number_of-cast_unsigned ty found.0 found.2))
    go (inr e) = subst (λ (t : Datatype). element_of t (bits t x) ≡ x) (sym e) (of_pair x (subst (λ (t : Datatype). IsElement t x) e h))

-- an element's bytes read back
pub element_at-element_bytes : (ty : Datatype) (x : Element) (rest : List ℕ) → IsElement ty x → element_at ty (element_bytes ty x ++ rest) ≡ x
element_at-element_bytes ty x rest h =
    ap (element_of ty) (little_number-reads_back (width ty) (bits ty x) rest (bits-lt ty x h))
    ∙ element_of-bits ty x h

-- the first bytes of a row of bytes are an element
pub IsElement-element_at : (ty : Datatype) (row : List ℕ) → ((i : ℕ) → slice_index row i < 256) → IsElement ty (element_at ty row)
IsElement-element_at ty row bytes = IsElement-element_of ty (little_number (width ty) row) (little_from-lt 0 (width ty) row bytes)
