-- The qrels format as it is written.
use Rattle.std.specs.Prelude.{ℕ, List}
use Rattle.decimal_rank.specs.Texts.QrelLines.{qrel_line}
use Rattle.trec_formats.specs.declared.qrels.QrelLine.{QrelLine}

-- the written line of a judgement
abbrev pub qrel_text : QrelLine → List ℕ
qrel_text line = qrel_line line.topic line.doc line.grade
