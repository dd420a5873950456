-- The topics that are kept are those of the rules, place by place.
use Rattle.std.proofs.Common.{◌≡◌, ◌<◌, ◌≤◌, ◌+◌, ℕ, Option, Some, length, get_or, map, take, take_all, List, [], refl, sym, ap, ◌∙◌, arith}
use Rattle.std.specs.List.{position, sum_by}
use Rattle.std.specs.Str.{bytes_eq}
use Rattle.std.proofs.lemmas.List.{length-map, take_more}
use Rattle.std.proofs.lemmas.List.Sums.{sum_by_push}
use Rattle.lease_desk.specs.declared.leases.Lease.{Lease}
use Rattle.rulebook.specs.Campaign.{History}
use Rattle.rulebook.specs.Words.{Text}
use Rattle.assessment.specs.TopicFacts.{TopicFacts, TopicView, facts_of}
use Rattle.campaign_core.specs.CampaignStates.{KnowsAll}
use Rattle.campaign_core.specs.Numbering.Numbers.{names_of}
use Rattle.campaign_core.specs.Assessments.Topics.{topic_ids}
use Rattle.campaign_core.proofs.Lists.Elements.{get-map}
use Rattle.campaign_core.proofs.Rulings.KeptTopics.{states-long}
use Rattle.campaign_core.proofs.Numbers.NumberedDocs.{docno-there, first-place}
use Rattle.campaign_core.proofs.PageTexts.PageTopics.{PageTopic, page-topic}
use Rattle.campaign_core.proofs.Numbers.TopicNumbers.{topic-found}
use Rattle.campaign_core.proofs.Numbers.TopicIds.{state-ids}

module _ (H : History) (topics : List TopicFacts) (desk : List Lease) (knows : KnowsAll H topics desk) where
  pub as-long : length topics ≡ length (topic_ids H)
  as-long = states-long H topics (topic_ids H) knows.topics_are

  pub found-at : (k : ℕ) → k < length topics → Some k ≡ position (λ (s : TopicFacts). bytes_eq s.id (get_or (topic_ids H) k [])) topics
  found-at k within =
      let ids = topic_ids H in
      let inside : k < length ids = omega (arith, within, as-long) in
      sym (topic-found topics ids (get_or ids k []) (state-ids H topics ids knows.topics_are) (docno-there ids k inside)
      ∙ ap (λ (n : ℕ). let o : Option ℕ = Some n in o) (first-place ids k knows.topics_differ inside))

  pub topic-at : (k : ℕ) (s : TopicFacts) → k < length topics → s ≡ get_or topics k s → PageTopic H (names_of H) s desk (get_or (topic_ids H) k []) k
  topic-at k s within is = page-topic H topics desk (names_of H) (get_or (topic_ids H) k []) k s knows refl (found-at k within) is

-- the same of a topic as the code sees it
pub view-at : (H : History) (topics : List TopicView) (desk : List Lease) (number : ℕ) (topic : TopicView) → KnowsAll H (map facts_of topics) desk
    → number < length topics → topic ≡ get_or topics number topic
    → PageTopic H (names_of H) topic.facts desk (get_or (topic_ids H) number []) number
view-at H topics desk number topic knows within is =
    topic-at H (map facts_of topics) desk knows number topic.facts (omega (arith, within, length-map topics facts_of))
    (ap facts_of is ∙ sym (get-map facts_of topics number topic))

-- a sum over texts, with one more, and over all

pub sum-more : (f : Text → ℕ) (ids : List Text) (i sum one : ℕ) → i < length ids → sum ≡ sum_by f (take i ids)
    → one ≡ f (get_or ids i []) → sum + one ≡ sum_by f (take (i + 1) ids)
sum-more f ids i sum one within sum_is one_is =
    ap (λ n. n + one) sum_is
    ∙ ap (λ n. sum_by f (take i ids) + n) one_is
    ∙ sym (ap (sum_by f) (take_more ids i [] within) ∙ sum_by_push f (take i ids) (get_or ids i []))

pub sum-all : (f : Text → ℕ) (ids : List Text) (i sum : ℕ) → length ids ≤ i → sum ≡ sum_by f (take i ids) → sum ≡ sum_by f ids
sum-all f ids i sum past sum_is = sum_is ∙ ap (sum_by f) (take_all i ids past)

-- what the topics that are known tell of an id
pub known-place : (all topics : List TopicView) (place : Option ℕ) (id topic : Text) → topics ≡ all → id ≡ topic
    → place ≡ position (λ (s : TopicFacts). bytes_eq s.id id) (map facts_of topics)
    → place ≡ position (λ (s : TopicFacts). bytes_eq s.id topic) (map facts_of all)
known-place all topics place id topic all_are id_is found =
    found
    ∙ ap (λ (id : Text). position (λ (s : TopicFacts). bytes_eq s.id id) (map facts_of topics)) id_is
    ∙ ap (λ (topics : List TopicView). position (λ (s : TopicFacts). bytes_eq s.id topic) (map facts_of topics)) all_are
