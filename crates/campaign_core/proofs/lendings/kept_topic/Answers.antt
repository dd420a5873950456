use Rattle.std.proofs.Common.{◌≡◌, ◌<◌, ◌∙◌, List, ap, arith, get_or, length, map, sym}
use Rattle.std.proofs.lemmas.List.{get_or-map, length-map}
use Rattle.assessment.specs.TopicFacts.{TopicView, facts_of}
use Rattle.campaign_core.proofs.Numbers.TopicPlaces.{as-long}
use Rattle.campaign_core.proofs.PageTexts.LentTopics.{topic-lent}
use Rattle.campaign_core.proofs.lendings.kept_topic.Goals as goal

pub bounds-topics-topic : goal.bounds-topics-topic
bounds-topics-topic c =
    let campaign = c.args.campaign.now in
    let all = campaign.assessment.topics.topics in
    let long = as-long campaign.history.items (map facts_of all) campaign.assessment.leases c.requires.known.assessed.knows in
    omega (arith, c.requires.within, long, length-map all facts_of, ap length c.topics.ensures)

pub returns : goal.returns
returns c =
    let campaign = c.args.campaign.now in
    let all = campaign.assessment.topics.topics in
    let topic = c.index-topics-topic.result in
    let long = as-long campaign.history.items (map facts_of all) campaign.assessment.leases c.requires.known.assessed.knows in
    let within : c.args.topic < length all = omega (arith, c.requires.within, long, length-map all facts_of) in
    let here : topic ≡ get_or all c.args.topic topic =
    c.index-topics-topic.is ∙ ap (λ (items : List TopicView). get_or items c.args.topic topic) c.topics.ensures in
    topic-lent campaign.history.items (map facts_of all) campaign.assessment.leases c.args.topic topic.facts c.requires.known.assessed.knows c.requires.within
    (ap facts_of here ∙ sym (get_or-map facts_of all c.args.topic topic topic.facts within))
