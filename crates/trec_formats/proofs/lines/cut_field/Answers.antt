use Rattle.std.proofs.lemmas.List.{take_rest}
use Rattle.trec_formats.proofs.LineTexts.Cuts.{fields_of-none, fields_of-cut, fields_of-last}
use Rattle.trec_formats.proofs.lines.cut_field.Goals as goal

pub returns-in_err-line : goal.returns-in_err-line
returns-in_err-line c = rw c.from_residual.ensures (fields_of-none c.args.line.now c.in_err-line.ensures)

pub returns-in-Some : goal.returns-in-Some
returns-in-Some c =
    simp take_rest (fields_of-cut c.args.line.now c.in_ok-line.field-0 c.in-Some.end c.in_ok-line.ensures (simp take_rest at c.in-Some.ensures))

pub returns-in-None : goal.returns-in-None
returns-in-None c =
    rw take_rest (fields_of-last c.args.line.now c.in_ok-line.field-0 c.in_ok-line.ensures (rw take_rest at c.in-None.ensures))
