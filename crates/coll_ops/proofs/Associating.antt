-- Operations on elements and on rows are associative.
use Rattle.std.proofs.Common.{◌≡◌, ℕ, zero, suc, ◌+◌, ◌*◌, ◌/◌, ◌%◌, ◌^◌, ◌<◌, ℤ, ◌+ℤ◌, ◌*ℤ◌, Bool, true, false, not, cond, List, [], ◌∷◌, ◌++◌}
use Rattle.std.proofs.Common.{length, drop, refl, arith, ap, sym, ◌∙◌, subst, flat_map, bit_and, max}
use Rattle.std.specs.Bool.{IsTrue}
use Rattle.std.specs.Prelude.{◌&&◌, ◌||◌, slice_index, bit_or, bit_xor, int_lt}
use Rattle.std.specs.Int.{cast_unsigned, int_max, int_min}
use Rattle.std.specs.Int.Bits.{xor_assoc}
use Rattle.std.proofs.Math.Nat.{add_assoc, mul_assoc, mod-add-mod, add-mod-mod}
use Rattle.std.proofs.lemmas.Bool.{lt-ltb, false≢true}
use Rattle.std.proofs.lemmas.Int.{ints, clamps}
use Rattle.std.proofs.lemmas.Nat.Bits.{same_from_bits, bit_at_or}
use Rattle.std.specs.Int.{bit_at}
use Rattle.std.proofs.lemmas.Nat.{and_assoc, mul-mod_first, mul-mod_second}
use Rattle.std.proofs.lemmas.List.{drop_at, get_or-drop}
use Rattle.coll_kinds.specs.declared.datatype.Datatype.{Datatype}
use Rattle.coll_kinds.specs.declared.datatype.Datatype.TheVariants.{I8, I16, I32, I64, U8, U16, U32, U64, Byte, Pair}
use Rattle.coll_kinds.specs.declared.operation.Op.{Op}
use Rattle.coll_kinds.specs.declared.operation.Op.TheVariants.{Max, Min, Sum, Prod, Land, Lor, Lxor, Band, Bor, Bxor, LastNz, MaxLoc, MinLoc}
use Rattle.coll_kinds.specs.Checks.{allowed}
use Rattle.coll_kinds.specs.Elements.{Element, whole, number, index, width, word, limit, is_pair, is_integer, number_of, IsElement, element_at, element_bytes}
use Rattle.coll_ops.specs.Operations.{wrapped, is_zero, flag, bitwise, computed, located, applied}
use Rattle.coll_ops.specs.Combinations.{elements, zipped, combined}
use Rattle.coll_ops.specs.Laws.{OperationsAssociate, OperationsStay, CombinationsAssociate, IsRow}
use Rattle.coll_ops.proofs.BitOperations.{Stays, bit_and-lt, bit_or-lt, bit_xor-lt, bitwise-bits}
use Rattle.coll_ops.proofs.ElementBits.{InRange, limit-some, cast_unsigned-lt, number_of-cast_unsigned, InRange-wrapped, whole-IsElement}
use Rattle.coll_ops.proofs.ElementBits.{IsElement-whole, IsElement-element_at, element_at-element_bytes, cast_unsigned-sum, cast_unsigned-product}
use Rattle.coll_ops.proofs.Places.{length-element_bytes}
use Rattle.coll_ops.proofs.RowLists.{length-combined, length-zipped}

-- an operation whose result has the bits that f makes of its operands' bits
record WorksOnBits (op : ℤ → ℤ → ℤ) (f : ℕ → ℕ → ℕ) (ty : Datatype) : Type 0 where
  in_range : (a b : ℤ) → InRange ty a → InRange ty b → InRange ty (op a b)
  bits_are : (a b : ℤ) → InRange ty a → InRange ty b → cast_unsigned (word ty) (op a b) ≡ f (cast_unsigned (word ty) a) (cast_unsigned (word ty) b)

-- it is associative where f is
associates : (op : ℤ → ℤ → ℤ) (f : ℕ → ℕ → ℕ) (ty : Datatype) → WorksOnBits op f ty → ((m n k : ℕ) → f (f m n) k ≡ f m (f n k)) →
    (a b c : ℤ) → InRange ty a → InRange ty b → InRange ty c → op (op a b) c ≡ op a (op b c)
associates op f ty works assoc a b c a_is b_is c_is =
    let bits = cast_unsigned (word ty) in
    let left = works.in_range a b a_is b_is in
    let right = works.in_range b c b_is c_is in
    let same : bits (op (op a b) c) ≡ bits (op a (op b c)) =
    works.bits_are (op a b) c left c_is
    ∙ (ap (λ m. f m (bits c)) (works.bits_are a b a_is b_is)
    ∙ (assoc (bits a) (bits b) (bits c)
    ∙ (ap (f (bits a)) (sym (works.bits_are b c b_is c_is))
    ∙ sym (works.bits_are a (op b c) a_is right)))) in
    sym (number_of-cast_unsigned ty (op (op a b) c) (works.in_range (op a b) c left c_is))
    ∙ (ap (number_of ty) same ∙ number_of-cast_unsigned ty (op a (op b c)) (works.in_range a (op b c) a_is right))

sum-works : (ty : Datatype) → WorksOnBits (λ a b. wrapped ty (a +ℤ b)) (λ m n. (m + n) % 2 ^ (8 * width ty)) ty
sum-works ty = record {
  in_range = λ a b a_is b_is. InRange-wrapped ty (a +ℤ b);
  bits_are = λ a b a_is b_is.
      subst (λ (z : ℤ). cast_unsigned (word ty) (wrapped ty (z +ℤ b)) ≡ (cast_unsigned (word ty) a + cast_unsigned (word ty) b) % 2 ^ (8 * width ty))
      (number_of-cast_unsigned ty a a_is)
      (subst (λ (z : ℤ). cast_unsigned (word ty) (wrapped ty (number_of ty (cast_unsigned (word ty) a) +ℤ z))
      ≡ (cast_unsigned (word ty) a + cast_unsigned (word ty) b) % 2 ^ (8 * width ty)) (number_of-cast_unsigned ty b b_is)
      (cast_unsigned-sum ty (cast_unsigned (word ty) a) (cast_unsigned (word ty) b) (cast_unsigned-lt ty a a_is) (cast_unsigned-lt ty b b_is)));
}

product-works : (ty : Datatype) → WorksOnBits (λ a b. wrapped ty (a *ℤ b)) (λ m n. (m * n) % 2 ^ (8 * width ty)) ty
product-works ty = record {
  in_range = λ a b a_is b_is. InRange-wrapped ty (a *ℤ b);
  bits_are = λ a b a_is b_is.
      subst (λ (z : ℤ). cast_unsigned (word ty) (wrapped ty (z *ℤ b)) ≡ (cast_unsigned (word ty) a * cast_unsigned (word ty) b) % 2 ^ (8 * width ty))
      (number_of-cast_unsigned ty a a_is)
      (subst (λ (z : ℤ). cast_unsigned (word ty) (wrapped ty (number_of ty (cast_unsigned (word ty) a) *ℤ z))
      ≡ (cast_unsigned (word ty) a * cast_unsigned (word ty) b) % 2 ^ (8 * width ty)) (number_of-cast_unsigned ty b b_is)
      (cast_unsigned-product ty (cast_unsigned (word ty) a) (cast_unsigned (word ty) b) (cast_unsigned-lt ty a a_is) (cast_unsigned-lt ty b b_is)));
}

bitwise-works : (f : ℕ → ℕ → ℕ) → Stays f → (ty : Datatype) → WorksOnBits (bitwise f ty) f ty
bitwise-works f stays ty = record {
  in_range = λ a b a_is b_is. InRange-wrapped ty _;
  bits_are = λ a b a_is b_is.
      subst (λ (z : ℤ). cast_unsigned (word ty) (bitwise f ty z b) ≡ f (cast_unsigned (word ty) a) (cast_unsigned (word ty) b))
      (number_of-cast_unsigned ty a a_is)
      (subst (λ (z : ℤ). cast_unsigned (word ty) (bitwise f ty (number_of ty (cast_unsigned (word ty) a)) z)
      ≡ f (cast_unsigned (word ty) a) (cast_unsigned (word ty) b)) (number_of-cast_unsigned ty b b_is)
      (bitwise-bits f stays ty (cast_unsigned (word ty) a) (cast_unsigned (word ty) b) (cast_unsigned-lt ty a a_is) (cast_unsigned-lt ty b b_is)));
}

sum-assoc : (q m n k : ℕ) → ((m + n) % q + k) % q ≡ (m + (n + k) % q) % q
sum-assoc q m n k = mod-add-mod (m + n) q k ∙ (ap (λ s. s % q) (add_assoc m n k) ∙ sym (add-mod-mod m (n + k) q))

product-assoc : (q m n k : ℕ) → ((m * n) % q * k) % q ≡ (m * ((n * k) % q)) % q
product-assoc q m n k = mul-mod_first (m * n) k q ∙ (ap (λ s. s % q) (mul_assoc m n k) ∙ sym (mul-mod_second m (n * k) q))

or_assoc : (a b c : ℕ) → bit_or (bit_or a b) c ≡ bit_or a (bit_or b c)
or_assoc a b c = same_from_bits _ _ (λ i.
    bit_at_or (bit_or a b) c i ∙ (ap (λ m. max m (bit_at c i)) (bit_at_or a b i)
    ∙ (max_assoc (bit_at a i) (bit_at b i) (bit_at c i)
    ∙ (ap (max (bit_at a i)) (sym (bit_at_or b c i)) ∙ sym (bit_at_or a (bit_or b c) i)))))
  where
    max_assoc : (x y z : ℕ) → max (max x y) z ≡ max x (max y z)
    max_assoc x y z = omega arith

is_zero-flag : (b : Bool) → is_zero (flag b) ≡ not b
is_zero-flag true = refl
is_zero-flag false = refl

-- the three logical operations, of the tests for 0
land-assoc : (a b c : Bool) → (not (not (not a && not b)) && not c) ≡ (not a && not (not (not b && not c)))
land-assoc true b c = refl
land-assoc false true c = refl
land-assoc false false true = refl
land-assoc false false false = refl

lor-assoc : (a b c : Bool) → (not (not (not a || not b)) || not c) ≡ (not a || not (not (not b || not c)))
lor-assoc true true true = refl
lor-assoc true true false = refl
lor-assoc true false c = refl
lor-assoc false b c = refl

lxor-assoc : (a b c : Bool) → cond (not (cond a (not b) b)) (not c) c ≡ cond a (not (not (cond b (not c) c))) (not (cond b (not c) c))
lxor-assoc true true true = refl
lxor-assoc true true false = refl
lxor-assoc true false true = refl
lxor-assoc true false false = refl
lxor-assoc false true true = refl
lxor-assoc false true false = refl
lxor-assoc false false true = refl
lxor-assoc false false false = refl

max-assoc : (a b c : ℤ) → int_max (int_max a b) c ≡ int_max a (int_max b c)
max-assoc a b c = omega (arith, ints, clamps)

min-assoc : (a b c : ℤ) → int_min (int_min a b) c ≡ int_min a (int_min b c)
min-assoc a b c = omega (arith, ints, clamps)

last-assoc : (a b c : ℤ) → cond (is_zero c) (cond (is_zero b) a b) c ≡ cond (is_zero (cond (is_zero c) b c)) a (cond (is_zero c) b c)
last-assoc a b c = by_test (is_zero c) refl
  where
    by_test : (t : Bool) → is_zero c ≡ t → cond (is_zero c) (cond (is_zero b) a b) c ≡ cond (is_zero (cond (is_zero c) b c)) a (cond (is_zero c) b c)
    by_test true e = rw e refl
    by_test false e = rw e (rw e refl)

-- an operation on whole numbers is associative
numbers_associate : (op : Op) (ty : Datatype) (a b c : ℤ) → InRange ty a → InRange ty b → InRange ty c
    → computed op ty (computed op ty a b) c ≡ computed op ty a (computed op ty b c)
numbers_associate Max ty a b c a_is b_is c_is = max-assoc a b c
numbers_associate Min ty a b c a_is b_is c_is = min-assoc a b c
numbers_associate Sum ty a b c a_is b_is c_is = associates _ _ ty (sum-works ty) (sum-assoc (2 ^ (8 * width ty))) a b c a_is b_is c_is
numbers_associate Prod ty a b c a_is b_is c_is = associates _ _ ty (product-works ty) (product-assoc (2 ^ (8 * width ty))) a b c a_is b_is c_is
numbers_associate Land ty a b c a_is b_is c_is =
    rw (is_zero-flag (not (is_zero a) && not (is_zero b)), is_zero-flag (not (is_zero b) && not (is_zero c)))
    (ap flag (land-assoc (is_zero a) (is_zero b) (is_zero c)))
numbers_associate Lor ty a b c a_is b_is c_is =
    rw (is_zero-flag (not (is_zero a) || not (is_zero b)), is_zero-flag (not (is_zero b) || not (is_zero c)))
    (ap flag (lor-assoc (is_zero a) (is_zero b) (is_zero c)))
numbers_associate Lxor ty a b c a_is b_is c_is =
    rw (is_zero-flag (cond (is_zero a) (not (is_zero b)) (is_zero b)), is_zero-flag (cond (is_zero b) (not (is_zero c)) (is_zero c)))
    (ap flag (lxor-assoc (is_zero a) (is_zero b) (is_zero c)))
numbers_associate Band ty a b c a_is b_is c_is = associates _ _ ty (bitwise-works bit_and bit_and-lt ty) (λ m n k. and_assoc k m n) a b c a_is b_is c_is
numbers_associate Bor ty a b c a_is b_is c_is = associates _ _ ty (bitwise-works bit_or bit_or-lt ty) or_assoc a b c a_is b_is c_is
numbers_associate Bxor ty a b c a_is b_is c_is = associates _ _ ty (bitwise-works bit_xor bit_xor-lt ty) xor_assoc a b c a_is b_is c_is
numbers_associate LastNz ty a b c a_is b_is c_is = last-assoc a b c
numbers_associate MaxLoc ty a b c a_is b_is c_is = max-assoc a b c
numbers_associate MinLoc ty a b c a_is b_is c_is = min-assoc a b c

InRange-cond : (ty : Datatype) (t : Bool) (a b : ℤ) → InRange ty a → InRange ty b → InRange ty (cond t a b)
InRange-cond ty true a b a_is b_is = a_is
InRange-cond ty false a b a_is b_is = b_is

InRange-flag : (ty : Datatype) (b : Bool) → InRange ty (flag b)
InRange-flag ty true = lt-ltb 1 (limit ty) (limit-some ty)
InRange-flag ty false = let h = limit-some ty in lt-ltb 0 (limit ty) (omega arith)

-- and its result stays in the range
numbers_stay : (op : Op) (ty : Datatype) (a b : ℤ) → InRange ty a → InRange ty b → InRange ty (computed op ty a b)
numbers_stay Max ty a b a_is b_is = InRange-cond ty _ a b a_is b_is
numbers_stay Min ty a b a_is b_is = InRange-cond ty _ b a b_is a_is
numbers_stay Sum ty a b a_is b_is = InRange-wrapped ty _
numbers_stay Prod ty a b a_is b_is = InRange-wrapped ty _
numbers_stay Land ty a b a_is b_is = InRange-flag ty _
numbers_stay Lor ty a b a_is b_is = InRange-flag ty _
numbers_stay Lxor ty a b a_is b_is = InRange-flag ty _
numbers_stay Band ty a b a_is b_is = InRange-wrapped ty _
numbers_stay Bor ty a b a_is b_is = InRange-wrapped ty _
numbers_stay Bxor ty a b a_is b_is = InRange-wrapped ty _
numbers_stay LastNz ty a b a_is b_is = InRange-cond ty _ a b a_is b_is
numbers_stay MaxLoc ty a b a_is b_is = InRange-cond ty _ a b a_is b_is
numbers_stay MinLoc ty a b a_is b_is = InRange-cond ty _ b a b_is a_is

-- ---- elements

integers_are_whole : (ty : Datatype) → is_integer ty ≡ true → is_pair ty ≡ false
integers_are_whole I8 e = refl
integers_are_whole I16 e = refl
integers_are_whole I32 e = refl
integers_are_whole I64 e = refl
integers_are_whole U8 e = refl
integers_are_whole U16 e = refl
integers_are_whole U32 e = refl
integers_are_whole U64 e = refl
integers_are_whole Byte e = refl
integers_are_whole Pair e = absurd (false≢true e)

not_pairs : (b : Bool) → not b ≡ true → b ≡ false
not_pairs true e = absurd (false≢true e)
not_pairs false e = refl

-- the operation looks for a place
abbrev locates : Op → Bool
locates Max = false
locates Min = false
locates Sum = false
locates Prod = false
locates Land = false
locates Lor = false
locates Lxor = false
locates Band = false
locates Bor = false
locates Bxor = false
locates LastNz = false
locates MaxLoc = true
locates MinLoc = true

-- the others are allowed on whole numbers alone
pub allowed_on_whole : (op : Op) (ty : Datatype) → locates op ≡ false → IsTrue (allowed op ty) → is_pair ty ≡ false
allowed_on_whole Max ty e may = integers_are_whole ty may
allowed_on_whole Min ty e may = integers_are_whole ty may
allowed_on_whole Sum ty e may = integers_are_whole ty may
allowed_on_whole Prod ty e may = integers_are_whole ty may
allowed_on_whole Land ty e may = integers_are_whole ty may
allowed_on_whole Lor ty e may = integers_are_whole ty may
allowed_on_whole Lxor ty e may = integers_are_whole ty may
allowed_on_whole Band ty e may = not_pairs (is_pair ty) may
allowed_on_whole Bor ty e may = not_pairs (is_pair ty) may
allowed_on_whole Bxor ty e may = not_pairs (is_pair ty) may
allowed_on_whole LastNz ty e may = integers_are_whole ty may
allowed_on_whole MaxLoc ty e may = absurd (false≢true (sym e))
allowed_on_whole MinLoc ty e may = absurd (false≢true (sym e))

-- and compute the result's number
pub applied-whole : (op : Op) (ty : Datatype) (a b : Element) → locates op ≡ false → applied op ty a b ≡ whole (computed op ty (number a) (number b))
applied-whole Max ty a b e = refl
applied-whole Min ty a b e = refl
applied-whole Sum ty a b e = refl
applied-whole Prod ty a b e = refl
applied-whole Land ty a b e = refl
applied-whole Lor ty a b e = refl
applied-whole Lxor ty a b e = refl
applied-whole Band ty a b e = refl
applied-whole Bor ty a b e = refl
applied-whole Bxor ty a b e = refl
applied-whole LastNz ty a b e = refl
applied-whole MaxLoc ty a b e = absurd (false≢true (sym e))
applied-whole MinLoc ty a b e = absurd (false≢true (sym e))

InRange-number : (ty : Datatype) (x : Element) → is_pair ty ≡ false → IsElement ty x → InRange ty (number x)
InRange-number ty x e h = let found = whole-IsElement ty x e h in subst (λ (y : Element). InRange ty (number y)) (sym found.1) found.2

whole_associate : (op : Op) (ty : Datatype) → locates op ≡ false → IsTrue (allowed op ty) → (a b c : Element) → IsElement ty a
    → IsElement ty b → IsElement ty c →
    applied op ty (applied op ty a b) c ≡ applied op ty a (applied op ty b c)
whole_associate op ty e may a b c a_is b_is c_is =
    let no = allowed_on_whole op ty e may in
    let left : applied op ty (applied op ty a b) c ≡ whole (computed op ty (computed op ty (number a) (number b)) (number c)) =
    applied-whole op ty (applied op ty a b) c e ∙ ap (λ x. whole (computed op ty (number x) (number c))) (applied-whole op ty a b e) in
    let right : applied op ty a (applied op ty b c) ≡ whole (computed op ty (number a) (computed op ty (number b) (number c))) =
    applied-whole op ty a (applied op ty b c) e ∙ ap (λ x. whole (computed op ty (number a) (number x))) (applied-whole op ty b c e) in
    left
    ∙ (ap whole (numbers_associate op ty (number a) (number b) (number c) (InRange-number ty a no a_is)
    (InRange-number ty b no b_is) (InRange-number ty c no c_is))
    ∙ sym right)

whole_stay : (op : Op) (ty : Datatype) → locates op ≡ false → IsTrue (allowed op ty) → (a b : Element) → IsElement ty a
    → IsElement ty b → IsElement ty (applied op ty a b)
whole_stay op ty e may a b a_is b_is =
    let no = allowed_on_whole op ty e may in
    subst (IsElement ty) (sym (applied-whole op ty a b e))
    (IsElement-whole ty (computed op ty (number a) (number b)) no
    (numbers_stay op ty (number a) (number b) (InRange-number ty a no a_is) (InRange-number ty b no b_is)))

-- ---- the pair that is found

located-stays : (P : Element → Type 0) (before : ℤ → ℤ → Bool) (a b : Element) → P a → P b → P (located before a b)
located-stays P before a b a_is b_is = chosen (before (number a) (number b)) (before (number b) (number a)) (int_lt (index b) (index a))
  where
    chosen : (first second third : Bool) → P (cond first a (cond second b (cond third b a)))
    chosen true second third = a_is
    chosen false true third = b_is
    chosen false false true = b_is
    chosen false false false = a_is

-- b comes in a's place
abbrev exceeds : (ℤ → ℤ → Bool) → Element → Element → Bool
exceeds before a b = cond (before (number a) (number b)) false (cond (before (number b) (number a)) true (int_lt (index b) (index a)))

located-exceeds : (before : ℤ → ℤ → Bool) (a b : Element) → located before a b ≡ cond (exceeds before a b) b a
located-exceeds before a b = chosen (before (number a) (number b)) (before (number b) (number a)) (int_lt (index b) (index a))
  where
    chosen : (first second third : Bool) → cond first a (cond second b (cond third b a)) ≡ cond (cond first false (cond second true third)) b a
    chosen true second third = refl
    chosen false true third = refl
    chosen false false true = refl
    chosen false false false = refl

-- where it does so by an order, whichever two come first
choose-assoc : (takes : Element → Element → Bool) → ((a b c : Element) → takes a b ≡ true → takes b c ≡ true → takes a c ≡ true)
    → ((a b c : Element) → takes a b ≡ false → takes b c ≡ false → takes a c ≡ false) →
    (a b c : Element) → cond (takes (cond (takes a b) b a) c) c (cond (takes a b) b a) ≡ cond (takes a (cond (takes b c) c b)) (cond (takes b c) c b) a
choose-assoc takes chain unchained a b c = by_tests (takes a b) (takes b c) refl refl
  where
    by_tests : (s t : Bool) → takes a b ≡ s → takes b c ≡ t
        → cond (takes (cond (takes a b) b a) c) c (cond (takes a b) b a) ≡ cond (takes a (cond (takes b c) c b)) (cond (takes b c) c b) a
    by_tests true true e f = let g : takes a c ≡ true = chain a b c e f in rw (e, f) (rw g refl)
    by_tests true false e f = rw (e, f) (rw e refl)
    by_tests false true e f = rw (e, f) refl
    by_tests false false e f = let g : takes a c ≡ false = unchained a b c e f in rw (e, f) (rw (g, e) refl)

-- both orders chain
greater_chain : (u v w i j k : ℤ) → cond (int_lt v u) false (cond (int_lt u v) true (int_lt j i)) ≡ true
    → cond (int_lt w v) false (cond (int_lt v w) true (int_lt k j)) ≡ true → cond (int_lt w u) false (cond (int_lt u w) true (int_lt k i)) ≡ true
greater_chain u v w i j k e f = grind (arith, ints)

greater_unchained : (u v w i j k : ℤ) → cond (int_lt v u) false (cond (int_lt u v) true (int_lt j i)) ≡ false
    → cond (int_lt w v) false (cond (int_lt v w) true (int_lt k j)) ≡ false → cond (int_lt w u) false (cond (int_lt u w) true (int_lt k i)) ≡ false
greater_unchained u v w i j k e f = grind (arith, ints)

lesser_chain : (u v w i j k : ℤ) → cond (int_lt u v) false (cond (int_lt v u) true (int_lt j i)) ≡ true
    → cond (int_lt v w) false (cond (int_lt w v) true (int_lt k j)) ≡ true → cond (int_lt u w) false (cond (int_lt w u) true (int_lt k i)) ≡ true
lesser_chain u v w i j k e f = grind (arith, ints)

lesser_unchained : (u v w i j k : ℤ) → cond (int_lt u v) false (cond (int_lt v u) true (int_lt j i)) ≡ false
    → cond (int_lt v w) false (cond (int_lt w v) true (int_lt k j)) ≡ false → cond (int_lt u w) false (cond (int_lt w u) true (int_lt k i)) ≡ false
lesser_unchained u v w i j k e f = grind (arith, ints)

located-assoc : (before : ℤ → ℤ → Bool)
    → ((a b c : Element) → exceeds before a b ≡ true → exceeds before b c ≡ true → exceeds before a c ≡ true)
    → ((a b c : Element) → exceeds before a b ≡ false → exceeds before b c ≡ false → exceeds before a c ≡ false) →
    (a b c : Element) → located before (located before a b) c ≡ located before a (located before b c)
located-assoc before chain unchained a b c =
    located-exceeds before (located before a b) c
    ∙ (ap (λ x. cond (exceeds before x c) c x) (located-exceeds before a b)
    ∙ (choose-assoc (exceeds before) chain unchained a b c
    ∙ (ap (λ x. cond (exceeds before a x) x a) (sym (located-exceeds before b c))
    ∙ sym (located-exceeds before a (located before b c)))))

pub operations_associate : OperationsAssociate
operations_associate Max ty may a b c a_is b_is c_is = whole_associate Max ty refl may a b c a_is b_is c_is
operations_associate Min ty may a b c a_is b_is c_is = whole_associate Min ty refl may a b c a_is b_is c_is
operations_associate Sum ty may a b c a_is b_is c_is = whole_associate Sum ty refl may a b c a_is b_is c_is
operations_associate Prod ty may a b c a_is b_is c_is = whole_associate Prod ty refl may a b c a_is b_is c_is
operations_associate Land ty may a b c a_is b_is c_is = whole_associate Land ty refl may a b c a_is b_is c_is
operations_associate Lor ty may a b c a_is b_is c_is = whole_associate Lor ty refl may a b c a_is b_is c_is
operations_associate Lxor ty may a b c a_is b_is c_is = whole_associate Lxor ty refl may a b c a_is b_is c_is
operations_associate Band ty may a b c a_is b_is c_is = whole_associate Band ty refl may a b c a_is b_is c_is
operations_associate Bor ty may a b c a_is b_is c_is = whole_associate Bor ty refl may a b c a_is b_is c_is
operations_associate Bxor ty may a b c a_is b_is c_is = whole_associate Bxor ty refl may a b c a_is b_is c_is
operations_associate LastNz ty may a b c a_is b_is c_is = whole_associate LastNz ty refl may a b c a_is b_is c_is
operations_associate MaxLoc ty may a b c a_is b_is c_is =
    located-assoc (λ m n. int_lt n m)
    (λ a b c. greater_chain (number a) (number b) (number c) (index a) (index b) (index c))
    (λ a b c. greater_unchained (number a) (number b) (number c) (index a) (index b) (index c)) a b c
operations_associate MinLoc ty may a b c a_is b_is c_is =
    located-assoc int_lt
    (λ a b c. lesser_chain (number a) (number b) (number c) (index a) (index b) (index c))
    (λ a b c. lesser_unchained (number a) (number b) (number c) (index a) (index b) (index c)) a b c

pub operations_stay : OperationsStay
operations_stay Max ty may a b a_is b_is = whole_stay Max ty refl may a b a_is b_is
operations_stay Min ty may a b a_is b_is = whole_stay Min ty refl may a b a_is b_is
operations_stay Sum ty may a b a_is b_is = whole_stay Sum ty refl may a b a_is b_is
operations_stay Prod ty may a b a_is b_is = whole_stay Prod ty refl may a b a_is b_is
operations_stay Land ty may a b a_is b_is = whole_stay Land ty refl may a b a_is b_is
operations_stay Lor ty may a b a_is b_is = whole_stay Lor ty refl may a b a_is b_is
operations_stay Lxor ty may a b a_is b_is = whole_stay Lxor ty refl may a b a_is b_is
operations_stay Band ty may a b a_is b_is = whole_stay Band ty refl may a b a_is b_is
operations_stay Bor ty may a b a_is b_is = whole_stay Bor ty refl may a b a_is b_is
operations_stay Bxor ty may a b a_is b_is = whole_stay Bxor ty refl may a b a_is b_is
operations_stay LastNz ty may a b a_is b_is = whole_stay LastNz ty refl may a b a_is b_is
operations_stay MaxLoc ty may a b a_is b_is = located-stays (IsElement ty) (λ m n. int_lt n m) a b a_is b_is
operations_stay MinLoc ty may a b a_is b_is = located-stays (IsElement ty) int_lt a b a_is b_is

-- each is an element of the type
abbrev AreElements : Datatype → List Element → Type 0
AreElements ty [] = Unit {0}
AreElements ty (z ∷ zs) = IsElement ty z × AreElements ty zs

drop-bytes : (row : List ℕ) (n : ℕ) → ((i : ℕ) → slice_index row i < 256) → (i : ℕ) → slice_index (drop n row) i < 256
drop-bytes row n h i = rw get_or-drop (h (n + i))

AreElements-elements : (ty : Datatype) (count : ℕ) (row : List ℕ) → ((i : ℕ) → slice_index row i < 256) → AreElements ty (elements ty count row)
AreElements-elements ty zero row bytes = tt
AreElements-elements ty (suc count) row bytes =
    (IsElement-element_at ty row bytes, AreElements-elements ty count (drop (width ty) row) (drop-bytes row (width ty) bytes))

AreElements-zipped : (op : Op) (ty : Datatype) → IsTrue (allowed op ty) → (xs ys : List Element) → AreElements ty xs
    → AreElements ty ys → AreElements ty (zipped op ty xs ys)
AreElements-zipped op ty may [] ys x_are y_are = tt
AreElements-zipped op ty may (x ∷ xs) [] x_are y_are = tt
AreElements-zipped op ty may (x ∷ xs) (y ∷ ys) x_are y_are = (operations_stay op ty may x y x_are.0 y_are.0, AreElements-zipped op ty may xs ys x_are.1 y_are.1)

zipped-assoc : (op : Op) (ty : Datatype) → IsTrue (allowed op ty) → (xs ys zs : List Element) → AreElements ty xs → AreElements ty ys → AreElements ty zs →
    zipped op ty (zipped op ty xs ys) zs ≡ zipped op ty xs (zipped op ty ys zs)
zipped-assoc op ty may [] ys zs xa ya za = refl
zipped-assoc op ty may (x ∷ xs) [] zs xa ya za = refl
zipped-assoc op ty may (x ∷ xs) (y ∷ ys) [] xa ya za = refl
zipped-assoc op ty may (x ∷ xs) (y ∷ ys) (z ∷ zs) xa ya za =
    ap (λ v. v ∷ zipped op ty (zipped op ty xs ys) zs) (operations_associate op ty may x y z xa.0 ya.0 za.0)
    ∙ ap (λ rest. applied op ty x (applied op ty y z) ∷ rest) (zipped-assoc op ty may xs ys zs xa.1 ya.1 za.1)

-- the elements of a row that was written read back
elements-flat_map : (ty : Datatype) (zs : List Element) → AreElements ty zs → elements ty (length zs) (flat_map (element_bytes ty) zs) ≡ zs
elements-flat_map ty [] are = refl
elements-flat_map ty (z ∷ zs) are =
    let rest : List ℕ = flat_map (element_bytes ty) zs in
    let first : element_at ty (element_bytes ty z ++ rest) ≡ z = element_at-element_bytes ty z rest are.0 in
    let behind : drop (width ty) (element_bytes ty z ++ rest) ≡ rest = drop_at (element_bytes ty z) rest (width ty) (length-element_bytes ty z) in
    ap (λ x. x ∷ elements ty (length zs) (drop (width ty) (element_bytes ty z ++ rest))) first
    ∙ ap (λ row. z ∷ row) (ap (elements ty (length zs)) behind ∙ elements-flat_map ty zs are.1)

-- the elements of a combination
elements-combined : (op : Op) (ty : Datatype) → IsTrue (allowed op ty) → (a b : List ℕ) → IsRow ty a → IsRow ty b → length a ≡ length b →
    elements ty (length a / width ty) (combined op ty a b) ≡ zipped op ty (elements ty (length a / width ty) a) (elements ty (length a / width ty) b)
elements-combined op ty may a b a_row b_row same =
    let n = length a / width ty in
    let zs = zipped op ty (elements ty n a) (elements ty n b) in
    let are : AreElements ty zs = AreElements-zipped op ty may _ _ (AreElements-elements ty n a a_row.bytes) (AreElements-elements ty n b b_row.bytes) in
    ap (λ k. elements ty k (flat_map (element_bytes ty) zs)) (sym (length-zipped op ty n a b)) ∙ elements-flat_map ty zs are

pub combinations_associate : CombinationsAssociate
combinations_associate op ty may a b c a_row b_row c_row ab bc =
    let n : ℕ = length a / width ty in
    let write : List Element → List ℕ = flat_map (element_bytes ty) in
    let right_is : elements ty n (combined op ty b c) ≡ zipped op ty (elements ty n b) (elements ty n c) =
    subst (λ (k : ℕ). elements ty (k / width ty) (combined op ty b c) ≡ zipped op ty (elements ty (k / width ty) b) (elements ty (k / width ty) c))
    (sym ab) (elements-combined op ty may b c b_row c_row bc) in
    ap (λ k. write (zipped op ty (elements ty (k / width ty) (combined op ty a b)) (elements ty (k / width ty) c))) (length-combined op ty a b a_row.whole)
    ∙ (ap (λ zs. write (zipped op ty zs (elements ty n c))) (elements-combined op ty may a b a_row b_row ab)
    ∙ (ap write (zipped-assoc op ty may (elements ty n a) (elements ty n b) (elements ty n c)
    (AreElements-elements ty n a a_row.bytes) (AreElements-elements ty n b b_row.bytes) (AreElements-elements ty n c c_row.bytes))
    ∙ ap (λ zs. write (zipped op ty (elements ty n a) zs)) (sym right_is)))
