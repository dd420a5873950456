-- The topics so far have the run, and those behind stay as they were.
use Rattle.std.proofs.Common.{◌≡◌, ◌<◌, ◌≤◌, ℕ, List, get_or, length}
use Rattle.decimal_rank.specs.declared.naming.DocId.{DocId}
use Rattle.assessment.specs.TopicFacts.{TopicView, topic_with_list}
use Rattle.assessment.proofs.runs.enter_each.Given as goal

abbrev pub invariant-loop-number : goal.invariant-loop-number
invariant-loop-number l = record {
  long : length l.topics ≡ length l.fn.topics;
  done : (k : ℕ) (d e : TopicView) (docs : List DocId) → k < l.number
      → (get_or l.topics k d).facts ≡ topic_with_list l.run (get_or l.lists k docs) (get_or l.fn.topics k e).facts;
  left : (k : ℕ) (d : TopicView) → l.number ≤ k → get_or l.topics k d ≡ get_or l.fn.topics k d;
}
