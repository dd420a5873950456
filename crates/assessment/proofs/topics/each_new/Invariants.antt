-- The topics so far are the new ones of the rules so far.
use Rattle.std.proofs.Common.{◌≡◌, ◌++◌, length, map}
use Rattle.std.specs.Vec.Iter.{into_iter_items, into_iter_len}
use Rattle.assessment.specs.TopicFacts.{facts_of, new_topic}
use Rattle.assessment.proofs.topics.each_new.Given as goal

abbrev pub invariant-loop-rules : goal.invariant-loop-rules
invariant-loop-rules l = record {
  left : l.yielded ++ into_iter_items l.rules-iterator ≡ l.fn.given.items;
  len : into_iter_len l.rules-iterator ≡ length (into_iter_items l.rules-iterator);
  facts : map facts_of l.topics.items ≡ map new_topic l.yielded;
}
