-- What a member gives is a whole number of elements.
use Rattle.std.proofs.Common.{◌≡◌, ℕ, ◌*◌, ◌/◌, ◌<◌, Bool, true, false, cond, eqb, refl, ap, sym, ◌∙◌, arith}
use Rattle.std.proofs.Math.Nat.{mul-div_cancel}
use Rattle.coll_kinds.specs.declared.datatype.Datatype.{Datatype}
use Rattle.coll_kinds.specs.declared.datatype.Datatype.TheVariants.{I8, I16, I32, I64, U8, U16, U32, U64, Byte, Pair}
use Rattle.coll_kinds.specs.declared.kind.Kind.{Kind}
use Rattle.coll_kinds.specs.declared.kind.Kind.TheVariants.{Barrier, Bcast, Gather, Scatter, Allgather, Allgatherv, Alltoall, Reduce, Allreduce}
use Rattle.coll_kinds.specs.declared.kind.Kind.TheVariants.{Rsblock, Scan, Exscan}
use Rattle.coll_kinds.specs.declared.signature.Signature.{Signature}
use Rattle.coll_kinds.specs.Common.{width, count_at, row_len, given_by, given_len}

pub width-positive : (ty : Datatype) → 0 < width ty
width-positive I8 = omega arith
width-positive I16 = omega arith
width-positive I32 = omega arith
width-positive I64 = omega arith
width-positive U8 = omega arith
width-positive U16 = omega arith
width-positive U32 = omega arith
width-positive U64 = omega arith
width-positive Byte = omega arith
width-positive Pair = omega arith

-- a number of elements
abbrev Whole : ℕ → ℕ → Type 0
Whole w len = (count : ℕ) × (len ≡ count * w)

Whole-block : (w count : ℕ) → Whole w (count * w)
Whole-block w count = (count, refl)

Whole-blocks : (w count n : ℕ) → Whole w (n * (count * w))
Whole-blocks w count n = (n * count, omega arith)

Whole-none : (w : ℕ) → Whole w 0
Whole-none w = (0, omega arith)

Whole-cond : (b : Bool) (w len : ℕ) → Whole w len → Whole w (cond b len 0)
Whole-cond true w len whole = whole
Whole-cond false w len whole = Whole-none w

-- rows of whole numbers of elements
abbrev AreWhole : ℕ → (ℕ → ℕ) → Type 0
AreWhole w rows = (i : ℕ) → Whole w (rows i)

Whole-given_by : (kind : Kind) (root n r count w : ℕ) (rows : ℕ → ℕ) → AreWhole w rows → Whole w (given_by kind root n r (count * w) rows)
Whole-given_by Barrier root n r count w rows whole = Whole-none w
Whole-given_by Bcast root n r count w rows whole = Whole-cond (eqb r root) w (count * w) (Whole-block w count)
Whole-given_by Gather root n r count w rows whole = Whole-block w count
Whole-given_by Scatter root n r count w rows whole = Whole-cond (eqb r root) w (n * (count * w)) (Whole-blocks w count n)
Whole-given_by Allgather root n r count w rows whole = Whole-block w count
Whole-given_by Allgatherv root n r count w rows whole = whole r
Whole-given_by Alltoall root n r count w rows whole = Whole-blocks w count n
Whole-given_by Reduce root n r count w rows whole = Whole-block w count
Whole-given_by Allreduce root n r count w rows whole = Whole-block w count
Whole-given_by Rsblock root n r count w rows whole = Whole-blocks w count n
Whole-given_by Scan root n r count w rows whole = Whole-block w count
Whole-given_by Exscan root n r count w rows whole = Whole-block w count

-- the elements that are due have the bytes that the signature wants
pub given_len-whole : (sig : Signature) (n r : ℕ) → given_len sig n r / width sig.ty * width sig.ty ≡ given_len sig n r
given_len-whole sig n r =
    let whole = Whole-given_by sig.kind sig.root n r sig.count (width sig.ty) (row_len sig) (λ i. Whole-block (width sig.ty) (count_at sig.each i)) in
    ap (λ len. len / width sig.ty * width sig.ty) whole.1 ∙ ap (λ m. m * width sig.ty) (mul-div_cancel whole.0 (width-positive sig.ty)) ∙ sym whole.1
