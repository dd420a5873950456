use Rattle.std.proofs.Common.{arith, sym}
use Rattle.trec_formats.proofs.LineTexts.Cuts.{skips, row_there, no_row}
use Rattle.trec_formats.proofs.lines.next_row.Goals as goal

pub returns-then-has_field-clause-row : goal.returns-then-has_field-clause-row
returns-then-has_field-clause-row c = row_there _ _ _ _ _ _ _ c.loop-rest.invariant c.cut_line.ensures.cut c.has_field.ensures c.if-has_field.true

pub returns-then-has_field-clause-shorter : goal.returns-then-has_field-clause-shorter
returns-then-has_field-clause-shorter c = omega (arith, c.cut_line.ensures.shorter, c.loop-rest.invariant.shorter)

pub loop-rest-preserved : goal.loop-rest-preserved
loop-rest-preserved c = skips _ _ _ _ _ _ _ c.loop-rest.invariant c.cut_line.ensures.cut c.cut_line.ensures.shorter c.has_field.ensures c.if-has_field.false

pub returns-clause-row : goal.returns-clause-row
returns-clause-row c = no_row _ _ _ _ c.loop-rest.invariant (sym c.loop-rest-test.ensures)
