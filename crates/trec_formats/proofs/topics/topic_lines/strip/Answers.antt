use Rattle.std.proofs.Common.{◌∙◌, ap}
use Rattle.trec_formats.specs.TopicsFormat.TopicLines.{back_stripped, without_space}
use Rattle.trec_formats.proofs.topics.topic_lines.strip.Goals as goal

pub returns : goal.returns
unfolding without_space
returns c = c.strip_back.ensures ∙ ap back_stripped c.strip_front.ensures
