-- The counts are the sums over the topics so far, and small enough.
use Rattle.std.proofs.Common.{◌≡◌, ◌≤◌, ◌*◌, ◌^◌, List, map, take}
use Rattle.std.specs.List.{sum_by}
use Rattle.assessment.specs.TopicFacts.{facts_of}
use Rattle.lease_desk.specs.declared.leases.Lease.{Lease}
use Rattle.rulebook.specs.Campaign.{History}
use Rattle.rulebook.specs.Judgements.Grades.{relevant_count}
use Rattle.campaign_core.specs.CampaignStates.{KnowsAll}
use Rattle.campaign_core.specs.Views.Tallies.{judged_on}
use Rattle.campaign_core.specs.Assessments.Topics.{topic_ids}
use Rattle.campaign_core.proofs.tallies.judgements.Given as goal

abbrev pub invariant-loop-topic : goal.invariant-loop-topic
invariant-loop-topic l = record {
  relevant_is : (H : History) (desk : List Lease) → KnowsAll H (map facts_of l.topics) desk
      → l.relevant ≡ sum_by (relevant_count H) (take l.topic-index (topic_ids H));
  judged_is : (H : History) (desk : List Lease) → KnowsAll H (map facts_of l.topics) desk → l.judged ≡ sum_by (judged_on H) (take l.topic-index (topic_ids H));
  relevant_fits : l.relevant ≤ l.topic-index * 2 ^ 32;
  judged_fits : l.judged ≤ l.topic-index * 2 ^ 33;
}
