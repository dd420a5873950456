use Rattle.std.proofs.Common.{arith, sym}
use Rattle.std.proofs.lemmas.List.{take_all, length-take-le}
use Rattle.trec_formats.proofs.runs.run_fields.kept.Goals as goal

pub returns-then-field-le-MOST_KEPT : goal.returns-then-field-le-MOST_KEPT
returns-then-field-le-MOST_KEPT c = sym (take_all 401 _ c.if-field-le-MOST_KEPT.true)

pub slice_bounds-result-end : goal.slice_bounds-result-end
slice_bounds-result-end c = sym (length-take-le 401 _ (omega (arith, c.if-field-le-MOST_KEPT.false)))
