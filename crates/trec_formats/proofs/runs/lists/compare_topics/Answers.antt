use Rattle.std.proofs.Common.{sym}
use Rattle.trec_formats.specs.RunFormat.PackedRuns.{text_in}
use Rattle.trec_formats.proofs.RankedLists.TopicOrder.{tied_topic}
use Rattle.trec_formats.proofs.runs.lists.compare_topics.Goals as goal

pub returns-then-is_one_span : goal.returns-then-is_one_span
returns-then-is_one_span c = rw (c.is_one_span.ensures c.if-is_one_span.true) (sym (tied_topic (text_in c.args.bytes.now c.args.b.now.topic)))
