-- Worked rows, computed.
use Rattle.std.specs.Prelude.{◌≡◌, [], ◌∷◌, ◌++◌, replicate, Some, None, pos, negsuc, refl, codes}
use Rattle.coll_kinds.specs.declared.datatype.Datatype.TheVariants.{I8, I16, I32, U64, Pair}
use Rattle.coll_kinds.specs.declared.signature.Signature.{Signature}
use Rattle.coll_kinds.specs.declared.refusal.SignatureFault.TheVariants.{Count, Size}
use Rattle.coll_kinds.specs.Elements.{whole, pair, element_bytes, element_at}
use Rattle.coll_kinds.specs.Texts.{value_of}
use Rattle.coll_kinds.specs.Lengths.{given_len, got_len, lent}
use Rattle.coll_kinds.specs.Calls.{counted_call}
use Rattle.coll_kinds.specs.Checks.{broken}

bytes_of_six : element_bytes I32 (whole (pos 6)) ≡ 6 ∷ 0 ∷ 0 ∷ 0 ∷ []
bytes_of_six = refl

bytes_of_minus_two : element_bytes I32 (whole (negsuc 1)) ≡ 254 ∷ 255 ∷ 255 ∷ 255 ∷ []
bytes_of_minus_two = refl

element_of_128 : element_at I8 (128 ∷ []) ≡ whole (negsuc 127)
element_of_128 = refl

-- the value comes first
bytes_of_a_pair : element_bytes Pair (pair (pos 7) (pos 2)) ≡ 7 ∷ 0 ∷ 0 ∷ 0 ∷ 2 ∷ 0 ∷ 0 ∷ 0 ∷ []
bytes_of_a_pair = refl

pair_of_bytes : element_at Pair (254 ∷ 255 ∷ 255 ∷ 255 ∷ 5 ∷ 0 ∷ 0 ∷ 0 ∷ []) ≡ pair (negsuc 1) (pos 5)
pair_of_bytes = refl

-- "-128" is the least i8, and "128" is none
least_i8 : value_of I8 (codes "-128") ≡ Some (whole (negsuc 127))
least_i8 = refl

too_great_i8 : value_of I8 (codes "128") ≡ None
too_great_i8 = refl

minus_zero : value_of I8 (codes "-0") ≡ Some (whole (pos 0))
minus_zero = refl

leading_zeros : value_of I8 (codes "007") ≡ Some (whole (pos 7))
leading_zeros = refl

no_digits : value_of I8 (codes "-") ≡ None
no_digits = refl

no_plus : value_of I8 (codes "+1") ≡ None
no_plus = refl

pair_read : value_of Pair (codes "-3,04") ≡ Some (pair (negsuc 2) (pos 4))
pair_read = refl

no_index : value_of Pair (codes "7,") ≡ None
no_index = refl

no_comma : value_of Pair (codes "7") ≡ None
no_comma = refl

index_too_great : value_of Pair (codes "7,2147483648") ≡ None
index_too_great = refl

three_numbers : value_of Pair (codes "7,2,1") ≡ None
three_numbers = refl

-- three members, of whom the second gives nothing
abbrev of_three : Signature
of_three = counted_call I16 (2 ∷ 0 ∷ 1 ∷ replicate 61 0)

first_gives : given_len of_three 3 0 ≡ 4
first_gives = refl

second_gives : given_len of_three 3 1 ≡ 0
second_gives = refl

each_gets : got_len of_three 3 1 ≡ 6
each_gets = refl

third_lends : lent of_three 3 2 ≡ 8
third_lends = refl

three_fit : broken of_three 3 ≡ None
three_fit = refl

-- after the second member nothing may be counted
two_have_three_counts : broken of_three 2 ≡ Some Count
two_have_three_counts = refl

count_too_great : broken (counted_call I8 (65537 ∷ replicate 63 0)) 1 ≡ Some Count
count_too_great = refl

-- 16 MiB from 32 members
thirty_two_fit : broken (counted_call U64 (replicate 32 65536 ++ replicate 32 0)) 32 ≡ None
thirty_two_fit = refl

thirty_three_are_too_many : broken (counted_call U64 (replicate 33 65536 ++ replicate 31 0)) 33 ≡ Some Size
thirty_three_are_too_many = refl
