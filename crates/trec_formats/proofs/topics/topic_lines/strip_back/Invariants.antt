-- What is kept has the same text when stripped behind as the whole.
use Rattle.std.proofs.Common.{◌≡◌, length}
use Rattle.trec_formats.specs.TopicsFormat.TopicLines.{back_stripped}
use Rattle.trec_formats.proofs.topics.topic_lines.strip_back.Given as goal

abbrev pub invariant-loop-kept : goal.invariant-loop-kept
invariant-loop-kept l = back_stripped l.kept ≡ back_stripped l.text

abbrev pub decreases-loop-kept : goal.decreases-loop-kept
decreases-loop-kept l = length l.kept
