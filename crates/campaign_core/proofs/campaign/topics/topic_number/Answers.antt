use Rattle.std.proofs.Common.{◌∙◌}
use Rattle.std.specs.Str.{bytes_eq}
use Rattle.assessment.specs.TopicFacts.{TopicFacts, facts_of}
use Rattle.campaign_core.proofs.Lists.Elements.{position-map}
use Rattle.campaign_core.proofs.campaign.topics.topic_number.Goals as goal

pub returns : goal.returns
returns c = c.place_among.ensures ∙ position-map (λ (topic : TopicFacts). bytes_eq topic.id c.args.id.now) facts_of c.args.topics.now
