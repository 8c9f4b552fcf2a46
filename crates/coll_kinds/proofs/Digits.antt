-- Reading digits from the left.
use Rattle.std.proofs.Common.{◌≡◌, ℕ, zero, suc, ◌+◌, ◌-◌, ◌*◌, ◌^◌, ◌<◌, ◌≤◌, true, false, List, [], ◌∷◌, length, get_or, take, refl, arith, rules}
use Rattle.std.proofs.Common.{length-take}
use Rattle.std.specs.Char.{is_ascii_digit, digit_value}
use Rattle.std.specs.Str.{all_ascii_digits}
use Rattle.std.specs.Str.Parse.{digits_value, AllDigits}
use Rattle.std.proofs.Math.Nat.{pow-le-pow_right}
use Rattle.std.proofs.lemmas.Str.Parse.{IsNumeralModel, numerals_by_value, tells_all_ascii_digits}
use Rattle.std.proofs.lemmas.Str.{digit_value_digit}
use Rattle.std.proofs.lemmas.Int.Digits.{digits_value_more, digits_more, digits_value-lt}

-- std's words for a text of digits
numerals : IsNumeralModel (λ ds. all_ascii_digits ds ≡ true) (digits_value 10)
numerals = numerals_by_value _ tells_all_ascii_digits

pub all_ascii_digits_is : (ds : List ℕ) → AllDigits 10 ds → all_ascii_digits ds ≡ true
all_ascii_digits_is ds h = numerals.from ds h

digit_value-ascii : (c : ℕ) → is_ascii_digit c ≡ true → (digit_value c < 10) × (digit_value c ≡ c - 48)
digit_value-ascii c h = grind (arith, digit_value_digit)

-- one more digit
pub digits_value-take_more : (bs : List ℕ) (i : ℕ) → i < length bs → is_ascii_digit (get_or bs i 0) ≡ true
    → digits_value 10 (take (i + 1) bs) ≡ 10 * digits_value 10 (take i bs) + (get_or bs i 0 - 48)
digits_value-take_more bs i within digit =
    let value = digit_value-ascii (get_or bs i 0) digit in
    omega (arith, digits_value_more 10 bs i within, value.1)

pub AllDigits-take_more : (bs : List ℕ) (i : ℕ) → i < length bs → is_ascii_digit (get_or bs i 0) ≡ true
    → AllDigits 10 (take i bs) → AllDigits 10 (take (i + 1) bs)
AllDigits-take_more bs i within digit so_far = digits_more 10 bs i within so_far (digit_value-ascii (get_or bs i 0) digit).0

-- some other character is among them
pub all_ascii_digits-other : (bs : List ℕ) (i : ℕ) → i < length bs → is_ascii_digit (get_or bs i 0) ≡ false → all_ascii_digits bs ≡ false
all_ascii_digits-other [] i within other = absurd (omega arith)
all_ascii_digits-other (c ∷ bs) zero within other = rw other refl
all_ascii_digits-other (c ∷ bs) (suc i) within other = rw (all_ascii_digits-other bs i (omega arith) other) (search rules)

-- twenty digits stay far below the width of the code's number
pub digits_value-take_fits : (bs : List ℕ) (i : ℕ) → i ≤ 20 → i ≤ length bs → AllDigits 10 (take i bs) → digits_value 10 (take i bs) < 10 ^ 20
digits_value-take_fits bs i few within h =
    let short : length (take i bs) ≤ 20 = simp length-take (omega arith) in
    let one_more : digits_value 10 (take i bs) < 10 ^ length (take i bs) = digits_value-lt 10 (take i bs) h in
    omega (arith, one_more, pow-le-pow_right {n = 10} (omega arith) short)
