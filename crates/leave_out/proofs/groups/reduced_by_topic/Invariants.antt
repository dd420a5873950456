-- The reduced judgements are those of the topics so far.
use Rattle.std.proofs.Common.{◌≡◌, map, take}
use Rattle.std.specs.Prelude.{All}
use Rattle.rulebook.specs.Judgements.Grades.{labelled_documents}
use Rattle.campaign_core.specs.Assessments.Topics.{topic_ids}
use Rattle.leave_out.specs.ReducedJudgements.{AreFew, reduced_in}
use Rattle.leave_out.proofs.groups.reduced_by_topic.Given as goal

abbrev pub invariant-loop-topic : goal.invariant-loop-topic
invariant-loop-topic l =
    let H = l.state.history in
    record {
      topics_are : l.topics.items ≡ map (λ topic. reduced_in H l.group topic (labelled_documents H topic)) (take l.topic (topic_ids H));
      few : All AreFew l.topics.items;
    }
