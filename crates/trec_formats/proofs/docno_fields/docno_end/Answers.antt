use Rattle.std.proofs.Common.{sym, ◌∙◌}
use Rattle.trec_formats.proofs.LineTexts.DocnoCuts.{docno_cut}
use Rattle.trec_formats.proofs.docno_fields.docno_end.Goals as goal

pub returns-clause-within : goal.returns-clause-within
returns-clause-within c =
    (docno_cut c.args.line.now c.in_ok-end.end c.in_ok-end.ensures (sym c.has_docno_length.ensures ∙ c.if-not-has_docno_length.false)
    (sym c.is_white_space.ensures ∙ c.if-not-is_white_space.false)).within

pub returns-clause-docno : goal.returns-clause-docno
returns-clause-docno c =
    (docno_cut c.args.line.now c.in_ok-end.end c.in_ok-end.ensures (sym c.has_docno_length.ensures ∙ c.if-not-has_docno_length.false)
    (sym c.is_white_space.ensures ∙ c.if-not-is_white_space.false)).docno

pub returns-clause-cut : goal.returns-clause-cut
returns-clause-cut c =
    (docno_cut c.args.line.now c.in_ok-end.end c.in_ok-end.ensures (sym c.has_docno_length.ensures ∙ c.if-not-has_docno_length.false)
    (sym c.is_white_space.ensures ∙ c.if-not-is_white_space.false)).cut
