-- Elements (MPI 4.1, 3.2.2 and 6.9.4): a whole number in its type's range, or a pair of two, the value and its index; and
-- their bytes, little-endian in two's complement.
use Rattle.std.specs.Prelude.{ℕ, ◌<◌, ◌+◌, ◌*◌, ◌-◌, ◌/◌, ◌%◌, ◌^◌, Bool, true, false, not, ◌&&◌, ℤ, pos, negsuc, nat_lt, List, IsTrue, slice_index}
use Rattle.std.specs.Prelude.{if◌then◌else◌}
use Rattle.std.specs.Int.{Width, w8, w16, w32, w64, cast_unsigned, cast_signed}
use Rattle.byteorder.specs.Endian.{little_number, little_bytes}
use Rattle.coll_kinds.specs.declared.datatype.Datatype.{Datatype}
use Rattle.coll_kinds.specs.declared.datatype.Datatype.TheVariants.{I8, I16, I32, I64, U8, U16, U32, U64, Byte, Pair}

-- the numbers are bytes
abbrev pub AreBytes : List ℕ → Type 0
AreBytes numbers = (i : ℕ) → slice_index numbers i < 256

-- ---- types

-- the bytes of one element
abbrev pub width : Datatype → ℕ
width I8 = 1
width I16 = 2
width I32 = 4
width I64 = 8
width U8 = 1
width U16 = 2
width U32 = 4
width U64 = 8
width Byte = 1
width Pair = 8

abbrev pub is_signed : Datatype → Bool
is_signed I8 = true
is_signed I16 = true
is_signed I32 = true
is_signed I64 = true
is_signed U8 = false
is_signed U16 = false
is_signed U32 = false
is_signed U64 = false
is_signed Byte = false
is_signed Pair = false

-- the type is one of MPI's integer types (MPI 4.1, 6.9.2)
abbrev pub is_integer : Datatype → Bool
is_integer I8 = true
is_integer I16 = true
is_integer I32 = true
is_integer I64 = true
is_integer U8 = true
is_integer U16 = true
is_integer U32 = true
is_integer U64 = true
is_integer Byte = false
is_integer Pair = false

-- an element of the type is a value with its index (MPI 4.1, 6.9.4)
abbrev pub is_pair : Datatype → Bool
is_pair I8 = false
is_pair I16 = false
is_pair I32 = false
is_pair I64 = false
is_pair U8 = false
is_pair U16 = false
is_pair U32 = false
is_pair U64 = false
is_pair Byte = false
is_pair Pair = true

-- the machine word of the type's width
abbrev pub word : Datatype → Width
word I8 = w8
word I16 = w16
word I32 = w32
word I64 = w64
word U8 = w8
word U16 = w16
word U32 = w32
word U64 = w64
word Byte = w8
word Pair = w64

-- ---- whole numbers of a type

-- the least whole number above the type's range
abbrev pub limit : Datatype → ℕ
limit ty = if is_signed ty then 2 ^ (8 * width ty - 1) else 2 ^ (8 * width ty)

-- the number lies in the type's range: from -limit, or from 0 where the type has no sign, to limit - 1
abbrev pub in_range : Datatype → ℤ → Bool
in_range ty (pos n) = nat_lt n (limit ty)
in_range ty (negsuc n) = is_signed ty && nat_lt n (limit ty)

-- the number that has these bits
abbrev pub number_of : Datatype → ℕ → ℤ
number_of ty n = if is_signed ty then cast_signed (word ty) n else pos n

-- ---- elements

-- a whole number, or a pair of a value and an index
pub data Element : Type 0 where
  whole : ℤ → Element
  pair : ℤ → ℤ → Element

-- the number by which elements are compared: of a pair its value
abbrev pub number : Element → ℤ
number (whole z) = z
number (pair z at) = z

-- the index of a pair
abbrev pub index : Element → ℤ
index (whole z) = pos 0
index (pair z at) = at

-- the element is one of the type: the numbers of a pair are i32
abbrev pub is_element : Datatype → Element → Bool
is_element ty (whole z) = not (is_pair ty) && in_range ty z
is_element ty (pair z at) = is_pair ty && (in_range I32 z && in_range I32 at)

abbrev pub IsElement : Datatype → Element → Type 0
IsElement ty e = IsTrue (is_element ty e)

-- the bits of an element: of a pair those of the index above those of the value
abbrev pub bits : Datatype → Element → ℕ
bits ty (whole z) = cast_unsigned (word ty) z
bits ty (pair z at) = cast_unsigned w32 z + 2 ^ 32 * cast_unsigned w32 at

-- the bytes of an element
abbrev pub element_bytes : Datatype → Element → List ℕ
element_bytes ty e = little_bytes (width ty) (bits ty e)

-- the element that has these bits
abbrev pub element_of : Datatype → ℕ → Element
element_of ty n =
    if is_pair ty then pair (number_of I32 (n % 2 ^ 32)) (number_of I32 (n / 2 ^ 32))
    else whole (number_of ty n)

-- the element in the first bytes of a row
abbrev pub element_at : Datatype → List ℕ → Element
element_at ty row = element_of ty (little_number (width ty) row)
