use Rattle.std.proofs.lemmas.List.{take_rest}
use Rattle.trec_formats.proofs.LineTexts.Cuts.{lines_of-cut, lines_of-none, lines_of-nil}
use Rattle.trec_formats.proofs.lines.cut_line.Goals as goal

pub returns-in-Some-clause-cut : goal.returns-in-Some-clause-cut
returns-in-Some-clause-cut c = rw take_rest (lines_of-cut c.args.text.now c.in-Some.end c.in-Some.ensures)

pub returns-in-None-clause-cut : goal.returns-in-None-clause-cut
returns-in-None-clause-cut c = rw lines_of-nil (lines_of-none c.args.text.now c.requires c.in-None.ensures)
