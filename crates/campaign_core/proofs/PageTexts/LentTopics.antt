-- What a topic that a state lends tells by its number.
use Rattle.std.proofs.Common.{◌≡◌, ◌<◌, ℕ, Option, Some, ap, arith, get_or, length, sym, ◌∙◌, List, []}
use Rattle.std.specs.Option.{option_map}
use Rattle.std.proofs.lemmas.Option.{slice_get-get_or}
use Rattle.lease_desk.specs.declared.leases.Lease.{Lease}
use Rattle.assessment.specs.TopicFacts.{TopicFacts}
use Rattle.rulebook.specs.Campaign.{History}
use Rattle.rulebook.specs.Words.{Text}
use Rattle.campaign_core.specs.CampaignStates.{KnowsAll}
use Rattle.campaign_core.specs.Views.LentTopics.{IsTopicAt, topic_at}
use Rattle.campaign_core.specs.Assessments.Topics.{topic_ids}
use Rattle.campaign_core.proofs.Numbers.TopicPlaces.{as-long, topic-at}
use Rattle.campaign_core.proofs.Rulings.AcceptedCommands.{some-same}

pub topic-lent : (H : History) (topics : List TopicFacts) (desk : List Lease) (number : ℕ) (facts : TopicFacts) → KnowsAll H topics desk
    → number < length (topic_ids H) → facts ≡ get_or topics number facts → IsTopicAt H number facts
topic-lent H topics desk number facts knows within is =
    let inside : number < length topics = omega (arith, within, as-long H topics desk knows) in
    let at = topic-at H topics desk knows number facts inside is in
    record {
      id_is = slice_get-get_or (topic_ids H) number [] within ∙ ap (λ (id : Text). let o : Option Text = Some id in o) (sym at.id_is);
      is_topic = at.is_topic;
    }

pub told-at : {X : Type 0} (H : History) (number : ℕ) (facts : TopicFacts) (f : Text → X) (x : X) → IsTopicAt H number facts → x ≡ f facts.id
    → option_map f (topic_at H number) ≡ Some x
told-at {X} H number facts f x at is = ap (option_map f) at.id_is ∙ ap (λ (x : X). let o : Option X = Some x in o) (sym is)

pub id-at : (H : History) (number : ℕ) (facts : TopicFacts) (id : Text) → IsTopicAt H number facts → topic_at H number ≡ Some id → facts.id ≡ id
id-at H number facts id at is = some-same facts.id id (sym at.id_is ∙ is)
