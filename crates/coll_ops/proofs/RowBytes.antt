-- Rows that were written hold bytes.
use Rattle.std.proofs.Common.{ℕ, zero, suc, ◌-◌, ◌/◌, ◌%◌, ◌^◌, ◌<◌, ◌≤◌, ◌⊎◌, inl, inr, List, [], ◌∷◌, ◌++◌, length, get_or, flat_map, ap, sym}
use Rattle.std.proofs.Common.{subst, ◌∙◌, arith, mod-lt}
use Rattle.std.specs.Int.{byte_at, bytes_low_first}
use Rattle.std.proofs.lemmas.Bool.{cases_lt}
use Rattle.std.proofs.Math.ListN.{get_or-append}
use Rattle.std.proofs.Math.Seq.{get_or-append_right}
use Rattle.coll_kinds.specs.declared.operation.Op.{Op}
use Rattle.coll_kinds.specs.declared.datatype.Datatype.{Datatype}
use Rattle.coll_kinds.specs.Elements.{Element, AreBytes, width, element_bytes}
use Rattle.coll_ops.specs.Combinations.{elements, zipped, combined}
use Rattle.coll_ops.specs.Laws.{IsRow}
use Rattle.coll_ops.proofs.RowLists.{length-combined}

AreBytes-append : (xs ys : List ℕ) → AreBytes xs → AreBytes ys → AreBytes (xs ++ ys)
AreBytes-append xs ys x_are y_are i = at (cases_lt i (length xs))
  where
    at : (i < length xs) ⊎ (length xs ≤ i) → get_or (xs ++ ys) i 0 < 256
    at (inl lt) = subst (λ b. b < 256) (sym (get_or-append xs ys 0 i lt)) (x_are i)
    at (inr le) = subst (λ b. b < 256) (sym (get_or-append_right xs ys i 0 le)) (y_are (i - length xs))

byte_at-lt : (i n : ℕ) → byte_at i n < 256
byte_at-lt zero n = mod-lt n (omega arith)
byte_at-lt (suc i) n = mod-lt (n / 256 ^ suc i) (omega arith)

AreBytes-low_first : (i k n : ℕ) → AreBytes (bytes_low_first i k n)
AreBytes-low_first i zero n j = omega arith
AreBytes-low_first i (suc k) n zero = byte_at-lt i n
AreBytes-low_first i (suc k) n (suc j) = AreBytes-low_first (suc i) k n j

AreBytes-elements : (ty : Datatype) (zs : List Element) → AreBytes (flat_map (element_bytes ty) zs)
AreBytes-elements ty [] = λ i. omega arith
AreBytes-elements ty (z ∷ zs) =
    AreBytes-append (element_bytes ty z) (flat_map (element_bytes ty) zs) (AreBytes-low_first 0 (width ty) _) (AreBytes-elements ty zs)

-- a combination is a row
pub IsRow-combined : (op : Op) (ty : Datatype) (a b : List ℕ) → IsRow ty a → IsRow ty (combined op ty a b)
IsRow-combined op ty a b is = record {
  whole = ap (λ k. k % width ty) (length-combined op ty a b is.whole) ∙ is.whole;
  bytes = AreBytes-elements ty (zipped op ty (elements ty (length a / width ty) a) (elements ty (length a / width ty) b));
}
