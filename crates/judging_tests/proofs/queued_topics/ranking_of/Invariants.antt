-- The list has documents below the next number, each once.
use Rattle.judging_tests.proofs.QueuedTopicSteps.{IsListed}
use Rattle.judging_tests.proofs.queued_topics.ranking_of.Given as goal

abbrev pub invariant-loop-doc : goal.invariant-loop-doc
invariant-loop-doc l = IsListed l.listed.items l.doc-counter
