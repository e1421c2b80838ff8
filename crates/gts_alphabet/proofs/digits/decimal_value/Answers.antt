use Rattle.std.proofs.Common.{get_or, arith}
use Rattle.std.proofs.Math.Nat.{pow-le-pow_right}
use Rattle.std.proofs.lemmas.Str.{digit_value_digit}
use Rattle.std.proofs.lemmas.Str.Parse.{digit_from_value}
use Rattle.std.proofs.lemmas.Int.Digits.{digits_more, digits_value_more}
use Rattle.std.proofs.lemmas.Grind.{pow_more, common_steps}
use Rattle.gts_alphabet.proofs.DigitsLemmas.{AllDigits-get_or}
use Rattle.gts_alphabet.proofs.digits.decimal_value.Goals as goal

pub returns-then-not-is_ascii_digit-clause-digits :
    goal.returns-then-not-is_ascii_digit-clause-digits
returns-then-not-is_ascii_digit-clause-digits c = grind (arith, common_steps, digit_from_value, AllDigits-get_or)

-- eight digits before this one leave room for it
pub overflow_mul-number : goal.overflow_mul-number
overflow_mul-number c = omega (arith, pow-le-pow_right {n = 10} (omega arith) {i = c.loop-digit.digit-index} {j = 8} (omega arith))

pub overflow_add-number : goal.overflow_add-number
overflow_add-number c = grind (arith, common_steps, pow-le-pow_right)

pub loop-digit-preserved : goal.loop-digit-preserved
loop-digit-preserved c = grind (arith, common_steps, digit_value_digit, digits_more, digits_value_more, pow_more)
