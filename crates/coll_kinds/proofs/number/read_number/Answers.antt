use Rattle.std.proofs.Common.{◌≡◌, ◌<◌, ◌^◌, true, false, get_or, take, arith, rules}
use Rattle.std.specs.Char.{is_ascii_digit}
use Rattle.std.specs.Str.{all_ascii_digits}
use Rattle.std.specs.Str.Parse.{digits_value}
use Rattle.std.proofs.lemmas.Grind.{common_steps}
use Rattle.coll_kinds.proofs.Digits.{all_ascii_digits_is, all_ascii_digits-other, digits_value-take_more, AllDigits-take_more, digits_value-take_fits}
use Rattle.coll_kinds.proofs.number.read_number.Goals as goal

pub returns-then-not-is_ascii_digit : goal.returns-then-not-is_ascii_digit
returns-then-not-is_ascii_digit c =
    let other : all_ascii_digits c.args.word.now ≡ false = all_ascii_digits-other c.args.word.now c.loop-digit.digit-index (omega arith) (search rules) in
    rw other (grind arith)

pub overflow_mul-number : goal.overflow_mul-number
overflow_mul-number c =
    let small : digits_value 10 (take c.loop-digit.digit-index c.args.word.now) < 10 ^ 20 =
    digits_value-take_fits c.args.word.now c.loop-digit.digit-index (omega arith) (omega arith) c.loop-digit.invariant.digits in
    omega (arith, small, c.loop-digit.invariant.value)

pub overflow_add-number : goal.overflow_add-number
overflow_add-number c =
    let small : digits_value 10 (take c.loop-digit.digit-index c.args.word.now) < 10 ^ 20 =
    digits_value-take_fits c.args.word.now c.loop-digit.digit-index (omega arith) (omega arith) c.loop-digit.invariant.digits in
    omega (arith, small, c.loop-digit.invariant.value)

pub loop-digit-preserved : goal.loop-digit-preserved
loop-digit-preserved c =
    let digit : is_ascii_digit (get_or c.args.word.now c.loop-digit.digit-index 0) ≡ true = search rules in
    record {
      digits = AllDigits-take_more c.args.word.now c.loop-digit.digit-index (omega arith) digit c.loop-digit.invariant.digits;
      value = omega (arith, digits_value-take_more c.args.word.now c.loop-digit.digit-index (omega arith) digit, c.loop-digit.invariant.value);
    }

pub returns : goal.returns
returns c =
    let whole : all_ascii_digits c.args.word.now ≡ true = grind (arith, common_steps, all_ascii_digits_is, c.loop-digit.invariant.digits) in
    grind (arith, common_steps, whole)
