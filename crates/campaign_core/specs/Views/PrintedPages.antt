-- The pages of a campaign, and what they have to do with the state of a topic.
use Rattle.std.specs.Prelude.{◌≡◌, ℕ, List}
use Rattle.std.specs.List.{flat_map}
use Rattle.rulebook.specs.Words.{Text}
use Rattle.rulebook.specs.Campaign.{History}
use Rattle.rulebook.specs.Reports.Pages.{disagreement_lines, progress_line, qrels_lines, topics_in_order}
use Rattle.campaign_core.specs.Assessments.TopicLabelling.{IsLabelled}
use Rattle.campaign_core.specs.Numbering.Numbers.{names_of}
use Rattle.campaign_core.specs.Assessments.Topics.{kept_topic, kept_topic_of, labelled_of}
use Rattle.campaign_core.specs.declared.pages.Page.{Page}
use Rattle.campaign_core.specs.declared.pages.Page.TheVariants as page
use Rattle.assessment.specs.TopicFacts.{TopicFacts}

-- what a page shows of a topic
abbrev pub part_of : Page → History → ℕ → Text → Text
part_of page.Qrels H now topic = qrels_lines H topic
part_of page.Disagreements H now topic = disagreement_lines H topic
part_of page.Progress H now topic = progress_line H now topic

-- a page with the topics by id
abbrev pub page_text : Page → History → ℕ → Text
page_text page H now = flat_map (part_of page H now) (topics_in_order H)

-- The state of a topic has the rules' pool, labels and grades of its id.
pub record IsTopicOf (H : History) (names : List Text) (topic : TopicFacts) : Type 0 where
  pub names_are : names ≡ names_of H
  pub kept_is : kept_topic topic ≡ kept_topic_of H topic.id
  pub labelled : IsLabelled H names (labelled_of topic)
