-- What a state lends of a topic, by the topic's number.
use Rattle.std.specs.Prelude.{◌≡◌, ℕ, List, Option, Some, map, slice_get}
use Rattle.qrels_view.specs.declared.grades.Graded.{Graded}
use Rattle.assessment.specs.TopicFacts.{TopicFacts}
use Rattle.rulebook.specs.Campaign.{History}
use Rattle.rulebook.specs.Judgements.Grades.{trail}
use Rattle.rulebook.specs.Words.{Text}
use Rattle.campaign_core.specs.Assessments.TopicLabelling.{graded_in}
use Rattle.campaign_core.specs.Numbering.Numbers.{names_of}
use Rattle.campaign_core.specs.Views.PrintedPages.{IsTopicOf}
use Rattle.campaign_core.specs.Assessments.Topics.{topic_ids}

-- the topic of a number
abbrev pub topic_at : History → ℕ → Option Text
topic_at H number = slice_get (topic_ids H) number

-- the documents of a topic's trail by their numbers, each with its effective grade
abbrev pub graded_on : History → Text → List Graded
graded_on H topic = map (graded_in H (names_of H) topic) (trail H topic)

-- These are the facts of the topic of a number.
pub record IsTopicAt (H : History) (number : ℕ) (facts : TopicFacts) : Type 0 where
  pub id_is : topic_at H number ≡ Some facts.id
  pub is_topic : IsTopicOf H (names_of H) facts
