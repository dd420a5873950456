use Rattle.std.proofs.Common.{◌∙◌, ap, sym}
use Rattle.std.specs.Option.{option_map}
use Rattle.trec_formats.proofs.RepeatedDocuments.JudgedLines.{grade_at, no_grade}
use Rattle.trec_formats.proofs.qrels.qrel_tables.grade_of.Goals as goal

pub returns-in-Some : goal.returns-in-Some
returns-in-Some c =
    grade_at c.args.lines.now c.args.document.topic.now c.args.document.doc.now c.in-Some.line.now
    (sym c.line_of.ensures ∙ ap (option_map (λ line. line.now)) c.in-Some.is)

pub returns-in-None : goal.returns-in-None
returns-in-None c =
    no_grade c.args.lines.now c.args.document.topic.now c.args.document.doc.now (sym c.line_of.ensures ∙ ap (option_map (λ line. line.now)) c.in-None.is)
