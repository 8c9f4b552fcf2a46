-- Pairs, read from a text and written.
use Rattle.std.proofs.Common.{◌≡◌, ℕ, ◌+◌, ◌-◌, ◌*◌, ◌/◌, ◌%◌, ◌^◌, ℤ, Option, Some, None, List, ◌++◌, take, drop, refl, ap, sym, ◌∙◌, arith, Result, Ok, Err}
use Rattle.std.specs.Prelude.{OnOk, replicate}
use Rattle.std.proofs.lemmas.List.{get_or-drop}
use Rattle.byteorder.specs.Endian.{little_number, little_bytes}
use Rattle.byteorder.specs.Numbers.{little_from-lt}
use Rattle.std.specs.Prelude.{◌==◌}
use Rattle.std.specs.Option.{option_map}
use Rattle.std.specs.List.{position}
use Rattle.std.specs.Int.{cast_unsigned, w32}
use Rattle.coll_kinds.specs.declared.datatype.Datatype.{Datatype}
use Rattle.coll_kinds.specs.declared.datatype.Datatype.TheVariants.{I8, I16, I32, I64, U8, U16, U32, U64, Byte, Pair}
use Rattle.coll_kinds.specs.Elements.{Element, AreBytes, width, bits}
use Rattle.coll_kinds.specs.Texts.{number_in, pair_of, padded_bytes}

abbrev comma_of : List ℕ → Option ℕ
comma_of word = position (λ c. c == 44) word

abbrev bits_in : List ℕ → Option ℕ
bits_in word = option_map (cast_unsigned w32) (number_in I32 word)

-- what has no bits is no number
none_there : (o : Option ℤ) → None ≡ option_map (cast_unsigned w32) o → o ≡ None
none_there None e = refl
none_there (Some z) e = cc

some_there : (o : Option ℤ) (n : ℕ) → Some n ≡ option_map (cast_unsigned w32) o → (z : ℤ) × (o ≡ Some z) × (n ≡ cast_unsigned w32 z)
some_there None n e = cc
some_there (Some z) n e = (z, refl, cc)

pub pair-no_comma : (word : List ℕ) → comma_of word ≡ None → None ≡ option_map (bits Pair) (pair_of word)
pair-no_comma word at = rw at refl

pub pair-no_value : (word text : List ℕ) (comma : ℕ) → comma_of word ≡ Some comma → None ≡ bits_in text → text ≡ take comma word
    → None ≡ option_map (bits Pair) (pair_of word)
pair-no_value word text comma at none text_is =
    let there : number_in I32 (take comma word) ≡ None = ap (number_in I32) (sym text_is) ∙ none_there (number_in I32 text) none in
    rw (at, there) refl

pub pair-no_index : (word text rest : List ℕ) (comma value : ℕ) → comma_of word ≡ Some comma → Some value ≡ bits_in text
    → None ≡ bits_in rest → text ≡ take comma word → rest ≡ drop (comma + 1) word → None ≡ option_map (bits Pair) (pair_of word)
pair-no_index word text rest comma value at some none text_is rest_is =
    let first = some_there (number_in I32 text) value some in
    let there : number_in I32 (take comma word) ≡ Some first.0 = ap (number_in I32) (sym text_is) ∙ first.1 in
    let behind : number_in I32 (drop (comma + 1) word) ≡ None = ap (number_in I32) (sym rest_is) ∙ none_there (number_in I32 rest) none in
    rw (at, there, behind) refl

pub pair-read : (word text rest : List ℕ) (comma value index : ℕ) → comma_of word ≡ Some comma → Some value ≡ bits_in text
    → Some index ≡ bits_in rest → text ≡ take comma word → rest ≡ drop (comma + 1) word → Some (value + 2 ^ 32 * index) ≡ option_map (bits Pair) (pair_of word)
pair-read word text rest comma value index at some more text_is rest_is =
    let first = some_there (number_in I32 text) value some in
    let second = some_there (number_in I32 rest) index more in
    let there : number_in I32 (take comma word) ≡ Some first.0 = ap (number_in I32) (sym text_is) ∙ first.1 in
    let behind : number_in I32 (drop (comma + 1) word) ≡ Some second.0 = ap (number_in I32) (sym rest_is) ∙ second.1 in
    let whole : option_map (bits Pair) (pair_of word) ≡ Some (cast_unsigned w32 first.0 + 2 ^ 32 * cast_unsigned w32 second.0) = rw (at, there, behind) refl in
    ap (λ v. Some (v + 2 ^ 32 * index)) first.2 ∙ (ap (λ v. Some (cast_unsigned w32 first.0 + 2 ^ 32 * v)) second.2 ∙ sym whole)

-- what is left of eight zeros
pub drop-zeros : (ty : Datatype) → drop {A = ℕ} (width ty) (replicate 8 0) ≡ replicate (8 - width ty) 0
drop-zeros I8 = refl
drop-zeros I16 = refl
drop-zeros I32 = refl
drop-zeros I64 = refl
drop-zeros U8 = refl
drop-zeros U16 = refl
drop-zeros U32 = refl
drop-zeros U64 = refl
drop-zeros Byte = refl
drop-zeros Pair = refl

-- the bytes of an element, of its bits
pub padded-bits : (ty : Datatype) (o : Option Element) (n : ℕ) → Some n ≡ option_map (bits ty) o
    → Some (little_bytes (width ty) n ++ replicate (8 - width ty) 0) ≡ option_map (padded_bytes ty) o
padded-bits ty None n e = cc
padded-bits ty (Some x) n e = let same : n ≡ bits ty x = cc in ap (λ m. Some (little_bytes (width ty) m ++ replicate (8 - width ty) 0)) same

pub padded-none : (ty : Datatype) (o : Option Element) → None ≡ option_map (bits ty) o → None ≡ option_map (padded_bytes ty) o
padded-none ty None e = refl
padded-none ty (Some x) e = cc

-- the second half of eight bytes stands above the first
halves : (row : List ℕ) → little_number 8 row ≡ little_number 4 row + 2 ^ 32 * little_number 4 (drop 4 row)
halves row = omega (arith, get_or-drop 4 row 0 0, get_or-drop 4 row 1 0, get_or-drop 4 row 2 0, get_or-drop 4 row 3 0)

pub low_half : (row : List ℕ) → AreBytes row → little_number 4 row ≡ little_number 8 row % 2 ^ 32
low_half row bytes = omega (arith, halves row, little_from-lt 0 4 row bytes)

pub high_half : (row : List ℕ) → AreBytes row → little_number 4 (drop 4 row) ≡ little_number 8 row / 2 ^ 32
high_half row bytes = omega (arith, halves row, little_from-lt 0 4 row bytes)

pub OnOk-map : {T E : Type 0} {P Q : Type 0} → (P → Q) → (r : Result T E) → OnOk r P → OnOk r Q
OnOk-map f (Ok v) h = f h
OnOk-map f (Err e) h = h
