use Rattle.std.specs.Prelude.{length}
use Rattle.trec_formats.specs.Lines.{lines_of}
use Rattle.trec_formats.specs.TopicsFormat.TopicLines.{topic_lines}
use Rattle.trec_formats.specs.TopicsFormat.Topics.{IsEachBlockRead, same_id}
use Rattle.trec_formats.proofs.LineTexts.Readings.{read_once}
use Rattle.trec_formats.proofs.TopicTexts.TopicReadings.{one_blocks_reading}
use Rattle.trec_formats.proofs.topics.topic_laws.one_topics_reading.Goals as goal

pub returns : goal.returns
returns c = λ text. read_once (IsEachBlockRead text) same_id (λ t. t.0) (one_blocks_reading (length (lines_of text)) (topic_lines text))
