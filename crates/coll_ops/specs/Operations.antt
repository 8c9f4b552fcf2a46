-- Reduction operations on two elements (MPI 4.1, 6.9.2 and 6.9.4). Sums and products wrap to the type's bits.
use Rattle.std.specs.Prelude.{ℕ, zero, suc, ◌*◌, ◌^◌, Bool, true, false, cond, not, ◌&&◌, ◌||◌, ℤ, pos, negsuc, ◌+ℤ◌, ◌*ℤ◌, unsigned_abs, int_lt}
use Rattle.std.specs.Prelude.{bit_and, bit_or, bit_xor, if◌then◌else◌}
use Rattle.std.specs.Int.{int_wrap, int_rem_euclid, int_max, int_min, cast_unsigned}
use Rattle.coll_kinds.specs.declared.datatype.Datatype.{Datatype}
use Rattle.coll_kinds.specs.declared.operation.Op.{Op}
use Rattle.coll_kinds.specs.declared.operation.Op.TheVariants.{Max, Min, Sum, Prod, Land, Lor, Lxor, Band, Bor, Bxor, LastNz, MaxLoc, MinLoc}
use Rattle.coll_kinds.specs.Elements.{Element, whole, number, index, width, word, is_signed}

-- the element that differs from a whole number by a multiple of two to the type's bits
abbrev pub wrapped : Datatype → ℤ → ℤ
wrapped ty z =
    if is_signed ty then int_wrap (word ty) z
    else pos (unsigned_abs (int_rem_euclid z (pos (2 ^ (8 * width ty)))))

abbrev pub is_zero : ℤ → Bool
is_zero (pos zero) = true
is_zero (pos (suc n)) = false
is_zero (negsuc n) = false

-- 1 for true, 0 for false
abbrev pub flag : Bool → ℤ
flag b = cond b (pos 1) (pos 0)

-- bit by bit, on the two's complement
abbrev pub bitwise : (ℕ → ℕ → ℕ) → Datatype → ℤ → ℤ → ℤ
bitwise f ty a b = wrapped ty (pos (f (cast_unsigned (word ty) a) (cast_unsigned (word ty) b)))

-- the number of the result, by those of the operands
abbrev pub computed : Op → Datatype → ℤ → ℤ → ℤ
computed Max ty a b = int_max a b
computed Min ty a b = int_min a b
computed Sum ty a b = wrapped ty (a +ℤ b)
computed Prod ty a b = wrapped ty (a *ℤ b)
computed Land ty a b = flag (not (is_zero a) && not (is_zero b))
computed Lor ty a b = flag (not (is_zero a) || not (is_zero b))
computed Lxor ty a b = flag (cond (is_zero a) (not (is_zero b)) (is_zero b))
computed Band ty a b = bitwise bit_and ty a b
computed Bor ty a b = bitwise bit_or ty a b
computed Bxor ty a b = bitwise bit_xor ty a b
computed LastNz ty a b = cond (is_zero b) a b
computed MaxLoc ty a b = int_max a b
computed MinLoc ty a b = int_min a b

-- of two pairs the one whose value comes first by that order, and of equal values the one with the lesser index
abbrev pub located : (ℤ → ℤ → Bool) → Element → Element → Element
located before a b =
    if before (number a) (number b) then a
    else (if before (number b) (number a) then b
    else (if int_lt (index b) (index a) then b else a))

-- the operation on two elements of a type
abbrev pub applied : Op → Datatype → Element → Element → Element
applied MaxLoc ty a b = located (λ m n. int_lt n m) a b
applied MinLoc ty a b = located int_lt a b
applied op ty a b = whole (computed op ty (number a) (number b))
