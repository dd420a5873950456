-- The rankings so far are those of the run's lists on the topics so far.
use Rattle.std.proofs.Common.{◌≡◌, List, ℕ, map, take}
use Rattle.rulebook.specs.Campaign.{docs_on}
use Rattle.assessment.specs.TopicFacts.{facts_of}
use Rattle.campaign_core.specs.Numbering.Numbers.{AreRankable, docs_in}
use Rattle.campaign_core.proofs.campaign.topics.rankings_of.Given as goal

abbrev pub invariant-loop-topic : goal.invariant-loop-topic
invariant-loop-topic l = (names : List (List ℕ)) → AreRankable names l.lists l.numbers
    → l.made.items ≡ map (λ topic. docs_in names (docs_on l.lists topic.id)) (map facts_of (take l.topic-index l.topics))
