-- The topics so far are without the run's list, and those behind stay as they were.
use Rattle.std.proofs.Common.{◌≡◌, ◌<◌, ◌≤◌, ℕ, get_or}
use Rattle.assessment.specs.TopicFacts.{TopicView, without_list}
use Rattle.assessment.proofs.runs.leave_each.Given as goal

abbrev pub invariant-loop-topic : goal.invariant-loop-topic
invariant-loop-topic l = record {
  done : (k : ℕ) (d e : TopicView) → k < l.topic-index → (get_or l.topics k d).facts ≡ without_list l.run (get_or l.fn.topics k e).facts;
  left : (k : ℕ) (d : TopicView) → l.topic-index ≤ k → get_or l.topics k d ≡ get_or l.fn.topics k d;
}
