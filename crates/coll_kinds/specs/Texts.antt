-- The decimal text of numbers and elements.
use Rattle.std.specs.Prelude.{ℕ, ◌+◌, ◌-◌, ◌==◌, Bool, ◌&&◌, ℤ, pos, neg_ℤ, nat_le, List, ◌∷◌, ◌++◌, Option, Some, None, length, take, drop}
use Rattle.std.specs.Prelude.{slice_index, replicate, option_and_then, if◌then◌else◌}
use Rattle.std.specs.Option.{option_map}
use Rattle.std.specs.Str.{all_ascii_digits}
use Rattle.std.specs.Str.Parse.{digits_value}
use Rattle.std.specs.List.{position}
use Rattle.std.specs.Fmt.{signed_decimal}
use Rattle.coll_kinds.specs.declared.datatype.Datatype.{Datatype}
use Rattle.coll_kinds.specs.declared.datatype.Datatype.TheVariants.{I32}
use Rattle.coll_kinds.specs.Elements.{Element, whole, pair, width, is_pair, in_range, element_bytes}

-- a number is one to twenty digits; leading zeros are allowed
abbrev pub is_number : List ℕ → Bool
is_number word = nat_le 1 (length word) && nat_le (length word) 20 && all_ascii_digits word

abbrev pub number_of : List ℕ → Option ℕ
number_of word = if is_number word then Some (digits_value 10 word) else None

-- a number with a minus sign before it or none
abbrev pub whole_number_of : List ℕ → Option ℤ
whole_number_of word =
    if slice_index word 0 == 45 then option_map (λ n. neg_ℤ (pos n)) (number_of (drop 1 word))
    else option_map pos (number_of word)

-- a whole number in a type's range
abbrev pub number_in : Datatype → List ℕ → Option ℤ
number_in ty word =
    option_and_then (λ z. if in_range ty z then Some z else None) (whole_number_of word)

-- a pair is two numbers in the range of i32, the value and the index, with a comma between them
abbrev pub pair_of : List ℕ → Option Element
pair_of word =
    option_and_then (λ comma. option_and_then (λ z. option_map (pair z) (number_in I32 (drop (comma + 1) word)))
    (number_in I32 (take comma word))) (position (λ c. c == 44) word)

-- an element of a type
abbrev pub value_of : Datatype → List ℕ → Option Element
value_of ty word = if is_pair ty then pair_of word else option_map whole (number_in ty word)

-- how an element is written
abbrev pub text_of : Element → List ℕ
text_of (whole z) = signed_decimal z
text_of (pair z at) = signed_decimal z ++ 44 ∷ signed_decimal at

-- eight bytes: those of an element, and zeros after them
abbrev pub padded_bytes : Datatype → Element → List ℕ
padded_bytes ty e = element_bytes ty e ++ replicate (8 - width ty) 0
