use Rattle.std.proofs.Common.{arith, sym, ◌∙◌, ap, ◌+◌, ◌*◌}
use Rattle.trec_formats.proofs.LineTexts.Grades.{grade_at_other, grade_too_high, grade_read, read_next, value_next}
use Rattle.trec_formats.proofs.names.grade_of.Goals as goal

pub returns-then-not-is_ascii_digit : goal.returns-then-not-is_ascii_digit
returns-then-not-is_ascii_digit c =
    sym (grade_at_other c.args.text.now c.loop-byte.byte-index c.loop-byte-test.true (sym c.is_ascii_digit.ensures.value ∙ c.if-not-is_ascii_digit.true))

pub returns-then-value-gt255 : goal.returns-then-value-gt255
returns-then-value-gt255 c =
    let next = value_next c.args.text.now c.loop-byte.byte-index c.loop-byte.value (c.loop-byte.value * 10 + c.from.result) c.loop-byte-test.true
    c.loop-byte.invariant (sym c.is_ascii_digit.ensures.value ∙ c.if-not-is_ascii_digit.false) (ap (λ d. c.loop-byte.value * 10 + d) c.from.ensures) in
    sym (grade_too_high c.args.text.now (c.loop-byte.byte-index + 1) (omega (arith, next)))

pub loop-byte-preserved : goal.loop-byte-preserved
loop-byte-preserved c =
    read_next c.args.text.now c.loop-byte.byte-index c.loop-byte.value (c.loop-byte.value * 10 + c.from.result) c.loop-byte-test.true c.loop-byte.invariant
    (sym c.is_ascii_digit.ensures.value ∙ c.if-not-is_ascii_digit.false) (ap (λ d. c.loop-byte.value * 10 + d) c.from.ensures) (omega arith)

pub returns : goal.returns
returns c = sym (grade_read c.args.text.now c.loop-byte.byte-index c.loop-byte.value c.loop-byte-test.false c.loop-byte.invariant)
