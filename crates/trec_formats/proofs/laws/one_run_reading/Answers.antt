use Rattle.trec_formats.specs.Lines.{rows_of}
use Rattle.trec_formats.specs.RunFormat.Runs.{AreRunLines}
use Rattle.trec_formats.proofs.LineTexts.Readings.{one_reading}
use Rattle.trec_formats.proofs.RunTexts.RunFormat.{next_line, run_format}
use Rattle.trec_formats.proofs.laws.one_run_reading.Goals as goal

pub returns : goal.returns
returns c = λ text. one_reading AreRunLines next_line run_format (rows_of text)
