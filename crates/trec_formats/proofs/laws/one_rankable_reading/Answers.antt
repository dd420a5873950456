use Rattle.trec_formats.specs.Lines.{rows_of}
use Rattle.trec_formats.specs.RunFormat.Lists.{same_run_document}
use Rattle.trec_formats.specs.RunFormat.Runs.{AreRunLines, IsRunReading}
use Rattle.trec_formats.proofs.LineTexts.Readings.{one_reading, read_once}
use Rattle.trec_formats.proofs.RunTexts.RunFormat.{next_line, run_format}
use Rattle.trec_formats.proofs.laws.one_rankable_reading.Goals as goal

pub returns : goal.returns
returns c = λ text. read_once (IsRunReading text) same_run_document (λ line. line.line) (one_reading AreRunLines next_line run_format (rows_of text))
