-- The topics that a page shows.
use Rattle.std.proofs.Common.{◌≡◌, ℕ, true, List, [], Some, map, get_or, sym, ap, ◌∙◌, subst}
use Rattle.std.specs.List.{position}
use Rattle.std.specs.Str.{bytes_eq}
use Rattle.lease_desk.specs.Leases.{live_on_topic}
use Rattle.lease_desk.specs.declared.leases.Lease.{Lease as DeskLease}
use Rattle.rulebook.specs.Words.{Text, in_order}
use Rattle.rulebook.specs.Campaign.{History}
use Rattle.rulebook.specs.Reports.Pages.{live_count, topics_in_order}
use Rattle.campaign_core.specs.CampaignStates.{KnowsAll}
use Rattle.campaign_core.specs.Numbering.Numbers.{names_of}
use Rattle.campaign_core.specs.Views.PrintedPages.{IsTopicOf}
use Rattle.campaign_core.specs.Assessments.Topics.{kept_topic, kept_topic_of, AreById, fact_ids, topic_ids}
use Rattle.assessment.specs.TopicFacts.{TopicFacts}
use Rattle.campaign_core.proofs.Rulings.LabelRulings.{topic-there}
use Rattle.campaign_core.proofs.NamedDocuments.LiveLeases.{live-on-topic-same}
use Rattle.campaign_core.proofs.Rulings.KeptTopics.{known-topic}
use Rattle.rulebook.specs.Spelling.{differ}
use Rattle.campaign_core.proofs.Numbers.TopicIds.{state-ids}

-- the topic of a page, and how many leases on it are live
pub record PageTopic (H : History) (names : List Text) (s : TopicFacts) (desk : List DeskLease) (id : Text) (number : ℕ) : Type 0 where
  pub id_is : s.id ≡ id
  pub is_topic : IsTopicOf H names s
  pub live_is : (now : ℕ) → live_on_topic desk number now ≡ live_count H now id

pub page-topic : (H : History) (topics : List TopicFacts) (desk : List DeskLease) (names : List Text) (id : Text) (number : ℕ) (s : TopicFacts)
    → KnowsAll H topics desk → names ≡ names_of H
    → Some number ≡ position (λ (s : TopicFacts). bytes_eq s.id id) topics → s ≡ get_or topics number s → PageTopic H names s desk id number
page-topic H topics desk names id number s knows names_are found is =
    let there = topic-there H topics desk names id number s knows names_are found is in
    let at = known-topic H topics id number knows.topics_are found in
    record {
      id_is = there.id_is;
      is_topic = record { names_are = names_are; kept_is = there.kept_is ∙ ap (kept_topic_of H) (sym there.id_is); labelled = there.labelled };
      live_is = λ now. ap (λ n. live_on_topic desk n now) at.number_is ∙ live-on-topic-same H (names_of H) desk now id knows.leased at.listed;
    }

-- the numbers of the topics by id, by the rules' topics
pub numbered-by-id : (H : History) (topics : List TopicFacts) (numbers : List ℕ) → map kept_topic topics ≡ map (kept_topic_of H) (topic_ids H)
    → AreById topics numbers → map (λ number. get_or (topic_ids H) number []) numbers ≡ topics_in_order H
numbered-by-id H topics numbers topics_are by_id =
    subst (λ (ids : List Text). map (λ number. get_or ids number []) numbers ≡ in_order ids) (state-ids H topics (topic_ids H) topics_are) by_id.ids_are

-- the ids of the topics differ
pub ids-differ : (H : History) (topics : List TopicFacts) (desk : List DeskLease) → KnowsAll H topics desk → differ (fact_ids topics) ≡ true
ids-differ H topics desk knows = ap differ (state-ids H topics (topic_ids H) knows.topics_are) ∙ knows.topics_differ
