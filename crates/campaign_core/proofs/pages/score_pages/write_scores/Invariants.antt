-- The numbers stand by id, and what is printed is the cells of the run on the topics so far.
use Rattle.std.proofs.Common.{◌≡◌, ◌++◌, [], get_or, map, take}
use Rattle.std.specs.List.{flat_map}
use Rattle.rulebook.specs.Campaign.{History, Run}
use Rattle.rulebook.specs.Reports.Scores.{cell_lines}
use Rattle.assessment.specs.TopicFacts.{facts_of}
use Rattle.campaign_core.specs.CampaignStates.{KnowsRun}
use Rattle.campaign_core.specs.Assessments.Topics.{AreById, topic_ids}
use Rattle.campaign_core.proofs.pages.score_pages.write_scores.Given as goal

abbrev pub invariant-loop-number : goal.invariant-loop-number
invariant-loop-number l = record {
  by_id : AreById (map facts_of l.topics) l.number-items;
  printed : (H : History) (r : Run) → KnowsRun H (map facts_of l.topics) l.board l.run r → l.name ≡ r.name
      → l.out.items ≡ l.fn.out.items ++ flat_map (λ number. cell_lines H r (get_or (topic_ids H) number [])) (take l.number-index l.number-items);
}
