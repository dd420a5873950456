-- The rest has the same text when stripped in front as the whole.
use Rattle.std.proofs.Common.{◌≡◌, length}
use Rattle.trec_formats.specs.TopicsFormat.TopicLines.{front_stripped}
use Rattle.trec_formats.proofs.topics.topic_lines.strip_front.Given as goal

abbrev pub invariant-loop-rest : goal.invariant-loop-rest
invariant-loop-rest l = front_stripped l.rest ≡ front_stripped l.text

abbrev pub decreases-loop-rest : goal.decreases-loop-rest
decreases-loop-rest l = length l.rest
