-- The numbers so far are those of the topics so far.
use Rattle.std.proofs.Common.{◌≡◌, ◌<◌, [], All, get_or, length, map, take}
use Rattle.assessment.specs.TopicFacts.{facts_of}
use Rattle.campaign_core.specs.Assessments.Topics.{fact_ids}
use Rattle.campaign_core.proofs.campaign.topics.numbers_by_id.Given as goal

abbrev pub invariant-loop-number : goal.invariant-loop-number
invariant-loop-number l = record {
  within : All (λ number. number < length (map facts_of l.topics)) l.numbers.items;
  ids_are : map (λ number. get_or (fact_ids (map facts_of l.topics)) number []) l.numbers.items ≡ take l.number (fact_ids (map facts_of l.topics));
}
