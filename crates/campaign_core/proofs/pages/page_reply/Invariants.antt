-- The numbers stand by id, and what is printed is the page's parts of the topics so far.
use Rattle.std.proofs.Common.{◌≡◌, [], get_or, map, take}
use Rattle.std.specs.List.{flat_map}
use Rattle.rulebook.specs.Campaign.{History}
use Rattle.assessment.specs.TopicFacts.{facts_of}
use Rattle.campaign_core.specs.CampaignStates.{KnowsAll}
use Rattle.campaign_core.specs.Numbering.Numbers.{names_of}
use Rattle.campaign_core.specs.Views.PrintedPages.{part_of}
use Rattle.campaign_core.specs.Assessments.Topics.{AreById, topic_ids}
use Rattle.campaign_core.proofs.pages.page_reply.Given as goal

abbrev pub invariant-loop-number : goal.invariant-loop-number
invariant-loop-number l = record {
  by_id : AreById (map facts_of l.source.topics.now) l.number-items;
  printed : (H : History) → KnowsAll H (map facts_of l.source.topics.now) l.source.desk.now.leases → l.source.docnos.now ≡ names_of H
      → l.out.items ≡ flat_map (λ number. part_of l.page H l.source.moment (get_or (topic_ids H) number [])) (take l.number-index l.number-items);
}
