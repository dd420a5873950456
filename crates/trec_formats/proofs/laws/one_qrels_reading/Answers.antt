use Rattle.trec_formats.specs.Lines.{rows_of}
use Rattle.trec_formats.specs.QrelsFormat.Qrels.{qrel_of, same_judged_document, IsEachRead}
use Rattle.trec_formats.specs.Faults.{Stand}
use Rattle.trec_formats.proofs.LineTexts.Readings.{one_reading, read_once, Stand-IsFormat}
use Rattle.trec_formats.proofs.laws.one_qrels_reading.Goals as goal

pub returns : goal.returns
returns c = λ text. read_once (IsEachRead text) same_judged_document (λ line. line.line)
    (one_reading (Stand qrel_of) (λ _. qrel_of) (Stand-IsFormat qrel_of) (rows_of text))
