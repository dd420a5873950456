-- The lines so far are read as the topics and the block that is open.
use Rattle.std.proofs.Common.{length}
use Rattle.trec_formats.proofs.TopicTexts.TopicProgress.{IsTopicsTo}
use Rattle.trec_formats.proofs.topics.read_blocks.Given as goal

abbrev pub invariant-loop-rest : goal.invariant-loop-rest
invariant-loop-rest l = IsTopicsTo l.bytes l.number l.rest l.topics.items l.open_block

abbrev pub decreases-loop-rest : goal.decreases-loop-rest
decreases-loop-rest l = length l.rest
