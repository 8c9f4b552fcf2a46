-- Operations bit by bit stay within a type's bits.
use Rattle.std.proofs.Common.{◌≡◌, ℕ, ◌*◌, ◌^◌, ◌<◌, sym, bit_and}
use Rattle.std.specs.Prelude.{bit_or, bit_xor}
use Rattle.std.specs.Int.{cast_unsigned}
use Rattle.std.proofs.lemmas.Nat.{or_lt, xor_lt}
use lib.Bits.{and_lt}
use Rattle.coll_kinds.specs.declared.datatype.Datatype.{Datatype}
use Rattle.coll_kinds.specs.Elements.{width, word, number_of}
use Rattle.coll_ops.specs.Operations.{bitwise}
use Rattle.coll_ops.proofs.ElementBits.{pow-width, cast_unsigned-number_of, cast_unsigned-pattern}

-- the operation on bits of the type's width gives such bits
abbrev pub Stays : (ℕ → ℕ → ℕ) → Type 0
Stays f = (ty : Datatype) (m n : ℕ) → m < 256 ^ width ty → n < 256 ^ width ty → f m n < 256 ^ width ty

pub bit_and-lt : Stays bit_and
bit_and-lt ty m n left right = rw (pow-width ty) (and_lt (8 * width ty) m n (rw (sym (pow-width ty)) left) (rw (sym (pow-width ty)) right))

pub bit_or-lt : Stays bit_or
bit_or-lt ty m n left right = rw (pow-width ty) (or_lt (8 * width ty) m n (rw (sym (pow-width ty)) left) (rw (sym (pow-width ty)) right))

pub bit_xor-lt : Stays bit_xor
bit_xor-lt ty m n left right = rw (pow-width ty) (xor_lt (8 * width ty) m n (rw (sym (pow-width ty)) left) (rw (sym (pow-width ty)) right))

-- the bits of the result
pub bitwise-bits : (f : ℕ → ℕ → ℕ) → Stays f → (ty : Datatype) (m n : ℕ) → m < 256 ^ width ty → n < 256 ^ width ty →
    cast_unsigned (word ty) (bitwise f ty (number_of ty m) (number_of ty n)) ≡ f m n
bitwise-bits f stays ty m n left right =
    rw (cast_unsigned-number_of ty m left, cast_unsigned-number_of ty n right) (cast_unsigned-pattern ty (f m n) (stays ty m n left right))
