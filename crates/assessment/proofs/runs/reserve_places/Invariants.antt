-- The topics so far have room for the run, and the facts of all stay.
use Rattle.std.proofs.Common.{◌≡◌, ◌<◌, ℕ, List, get_or, length, map}
use Rattle.decimal_rank.specs.declared.naming.DocId.{DocId}
use Rattle.assessment.specs.TopicFacts.{AwaitsRun, TopicView, facts_of}
use Rattle.assessment.proofs.runs.reserve_places.Given as goal

abbrev pub invariant-loop-number : goal.invariant-loop-number
invariant-loop-number l = record {
  long : length l.topics ≡ length l.fn.topics;
  facts : map facts_of l.topics ≡ map facts_of l.fn.topics;
  rooms : (on : ℕ) (docs : List DocId) (topic : TopicView) → on < l.number → AwaitsRun (get_or l.lists on docs) (get_or l.topics on topic);
}
