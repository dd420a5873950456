-- The title of the topic that stands at the number, and no byte where none does.
use Rattle.std.proofs.Common.{◌≡◌, ◌∙◌, List, ap, arith, get_or}
use Rattle.rulebook.specs.Campaign.{topics}
use Rattle.trec_formats.specs.declared.Topic.{Topic}
use Rattle.campaign_core.proofs.Numbers.TopicNumbers.{no_topic, title-at}
use Rattle.campaign_core.proofs.campaign.Campaign.title.Goals.{After-get}
use Rattle.campaign_core.proofs.campaign.Campaign.title.Goals as goal

-- the topics are those that were given
given : (c : After-get) → c.given_topics.result.now ≡ topics c.args.self.now.history.items
given c = c.given_topics.ensures ∙ ap topics c.deref.ensures.value

pub returns-in-Some : goal.returns-in-Some
returns-in-Some c id is =
    let here = (goal.at.returns-in-Some c).After-get in
    c.bytes.ensures ∙ ap (λ (t : Topic). t.title) (c.in-Some.ensures.lookup.4 (omega arith) no_topic)
    ∙ ap (λ (ts : List Topic). (get_or ts c.args.number no_topic).title) (given here) ∙ title-at c.args.self.now.history.items id c.args.number is

pub returns-in-None : goal.returns-in-None
returns-in-None c id is =
    let here = (goal.at.returns-in-None c).After-get in
    ap (λ (t : Topic). t.title) (c.in-None.ensures.lookup.4 (omega arith) no_topic)
    ∙ ap (λ (ts : List Topic). (get_or ts c.args.number no_topic).title) (given here) ∙ title-at c.args.self.now.history.items id c.args.number is
