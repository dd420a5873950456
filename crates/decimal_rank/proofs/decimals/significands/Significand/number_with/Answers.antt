use Rattle.std.proofs.Common.{arith}
use Rattle.decimal_rank.proofs.DecimalText.Digits.{digit_range}
use Rattle.decimal_rank.proofs.DecimalText.ReadDigits.{room}
use Rattle.decimal_rank.proofs.decimals.significands.Significand.number_with.Goals as goal

pub overflow_mul-result : goal.overflow_mul-result
overflow_mul-result c = omega (arith, room _ _ c.requires.below c.if-self-lt-MOST_DIGITS.true)

pub overflow_add-result : goal.overflow_add-result
overflow_add-result c =
    let range = digit_range c.args.byte c.requires.digit in
    omega (arith, room _ _ c.requires.below c.if-self-lt-MOST_DIGITS.true, c.from.ensures, range.1)
