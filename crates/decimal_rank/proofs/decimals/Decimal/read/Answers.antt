use Rattle.std.proofs.Common.{◌<◌, ◌≤◌, length, Ok, ap, ◌∙◌, arith, subst, pos, ◌+ℤ◌, ◌-ℤ◌, ◌/◌, ◌^◌}
use Rattle.std.specs.List.{list_all}
use Rattle.std.specs.Str.Parse.{digits_value, without_leading_sign}
use Rattle.decimal_rank.specs.Decimals.DecimalText.{is_digit, mantissa_digits, scaled_value}
use Rattle.decimal_rank.proofs.DecimalText.ReadDigits.{sized}
use Rattle.decimal_rank.proofs.DecimalText.Scores.{of_parts, few_zeros, whole_again, quotient_trimmed, value_made, unwrapped, unwrapped_near}
use Rattle.decimal_rank.proofs.DecimalText.ScoreTexts.{is_shaped, other_shape, many_digits, far_exponent, has_value, exponent_near}
use Rattle.decimal_rank.proofs.decimals.Decimal.read.Goals as goal

pub returns-in-None : goal.returns-in-None
returns-in-None c = other_shape c.args.text.now c.in-None.ensures

pub significand_of-significand-requires-clause-fraction : goal.significand_of-significand-requires-clause-fraction
significand_of-significand-requires-clause-fraction c =
    ap (list_all is_digit) c.in-Some.ensures.1.fraction ∙ (is_shaped c.args.text.now c.in-Some.ensures.0).fraction

pub significand_of-significand-requires-clause-whole : goal.significand_of-significand-requires-clause-whole
significand_of-significand-requires-clause-whole c =
    ap (list_all is_digit) c.in-Some.ensures.1.whole ∙ (is_shaped c.args.text.now c.in-Some.ensures.0).whole

pub significand_of-significand-requires-clause-few : goal.significand_of-significand-requires-clause-few
significand_of-significand-requires-clause-few c =
    let few = (is_shaped c.args.text.now c.in-Some.ensures.0).few in
    omega (arith, few, ap length c.in-Some.ensures.1.whole, ap length c.in-Some.ensures.1.fraction)

pub returns-then-significand-gt-MOST_DIGITS : goal.returns-then-significand-gt-MOST_DIGITS
returns-then-significand-gt-MOST_DIGITS c =
    let was = of_parts c.args.text.now c.in-Some.parts c.significand_of-significand.result c.in-Some.ensures.1 c.significand_of-significand.ensures in
    let size = sized (mantissa_digits c.args.text.now) c.significand_of-significand.result was in
    many_digits c.args.text.now c.in-Some.ensures.0 (omega (arith, size, c.if-significand-gt-MOST_DIGITS.true))

pub exponent_of-requires : goal.exponent_of-requires
exponent_of-requires c =
    ap (λ part. list_all is_digit (without_leading_sign part)) c.in-Some.ensures.1.exponent ∙ (is_shaped c.args.text.now c.in-Some.ensures.0).exponent

pub returns-in-None-exponent_of : goal.returns-in-None-exponent_of
returns-in-None-exponent_of c =
    let was = of_parts c.args.text.now c.in-Some.parts c.significand_of-significand.result c.in-Some.ensures.1 c.significand_of-significand.ensures in
    let size = sized (mantissa_digits c.args.text.now) c.significand_of-significand.result was in
    far_exponent c.args.text.now c.in-Some.ensures.0 (omega (arith, size, c.if-significand-gt-MOST_DIGITS.false))
    (subst (λ part. 400 < digits_value 10 (without_leading_sign part)) c.in-Some.ensures.1.exponent c.in-None-exponent_of.ensures)

pub last_exponent-requires-clause-low : goal.last_exponent-requires-clause-low
last_exponent-requires-clause-low c =
    let near = exponent_near c.in-Some.parts.exponent.now c.in-Some-exponent_of.ensures.0 in
    rw (unwrapped_near _ _ c.in-Some-exponent_of.ensures.1 near) (rw c.in-Some-exponent_of.ensures.1 near.0)

pub last_exponent-requires-clause-high : goal.last_exponent-requires-clause-high
last_exponent-requires-clause-high c =
    let near = exponent_near c.in-Some.parts.exponent.now c.in-Some-exponent_of.ensures.0 in
    rw (unwrapped_near _ _ c.in-Some-exponent_of.ensures.1 near) (rw c.in-Some-exponent_of.ensures.1 near.1)

pub last_exponent-requires-clause-zeros : goal.last_exponent-requires-clause-zeros
last_exponent-requires-clause-zeros c =
    few_zeros c.args.text.now c.significand_of-significand.result (is_shaped c.args.text.now c.in-Some.ensures.0)
    (of_parts c.args.text.now c.in-Some.parts c.significand_of-significand.result c.in-Some.ensures.1 c.significand_of-significand.ensures)

pub last_exponent-requires-clause-fraction : goal.last_exponent-requires-clause-fraction
last_exponent-requires-clause-fraction c =
    let few = (is_shaped c.args.text.now c.in-Some.ensures.0).few in
    omega (arith, few, ap length c.in-Some.ensures.1.fraction)

pub scaled-requires-clause-below : goal.scaled-requires-clause-below
scaled-requires-clause-below c = rw c.kept.ensures c.significand_of-significand.ensures.below

pub scaled-requires-clause-zeros : goal.scaled-requires-clause-zeros
scaled-requires-clause-zeros c = whole_again _ c.significand_of-significand.result c.kept_zeros.result c.significand_of-significand.ensures c.kept_zeros.ensures

pub scaled-requires-clause-trimmed : goal.scaled-requires-clause-trimmed
scaled-requires-clause-trimmed c =
    quotient_trimmed (mantissa_digits c.args.text.now) c.significand_of-significand.result c.kept_zeros.result
    (of_parts c.args.text.now c.in-Some.parts c.significand_of-significand.result c.in-Some.ensures.1 c.significand_of-significand.ensures)
    (is_shaped c.args.text.now c.in-Some.ensures.0).digits c.kept_zeros.ensures

pub returns : goal.returns
returns c =
    let was = of_parts c.args.text.now c.in-Some.parts c.significand_of-significand.result c.in-Some.ensures.1 c.significand_of-significand.ensures in
    let size = sized (mantissa_digits c.args.text.now) c.significand_of-significand.result was in
    let same = unwrapped_near _ _ c.in-Some-exponent_of.ensures.1 (exponent_near c.in-Some.parts.exponent.now c.in-Some-exponent_of.ensures.0) in
    let at = c.last_exponent.ensures.value ∙ ap (λ e. (e +ℤ pos c.significand_of-significand.result.zeros) -ℤ pos (length c.in-Some.parts.fraction.now)) same in
    let kept = unwrapped c.last_exponent.result c.last_exponent.ensures.low c.last_exponent.ensures.high in
    let scaled_is =
    c.scaled.ensures ∙ ap (scaled_value c.in-Some.parts.negative (c.significand_of-significand.result.number / 10 ^ c.kept_zeros.result)) kept in
    let made = value_made c.args.text.now c.in-Some.parts c.significand_of-significand.result c.kept_zeros.result
    c.in-Some-exponent_of.exponent c.last_exponent.result c.scaled.result
    c.in-Some.ensures.1 was c.kept_zeros.ensures c.in-Some-exponent_of.ensures.1 at scaled_is in
    ap Ok made
    ∙ has_value c.args.text.now c.in-Some.ensures.0 (omega (arith, size, c.if-significand-gt-MOST_DIGITS.false))
    (subst (λ part. digits_value 10 (without_leading_sign part) ≤ 400) c.in-Some.ensures.1.exponent c.in-Some-exponent_of.ensures.0)
