-- The topics of a campaign by id, each with its number.
use Rattle.std.specs.Prelude.{◌≡◌, ℕ, List, Some, map}
use Rattle.rulebook.specs.Words.{Text}
use Rattle.rulebook.specs.Campaign.{History}
use Rattle.rulebook.specs.Reports.Pages.{topics_in_order}
use Rattle.campaign_core.specs.Views.LentTopics.{topic_at}

-- the numbers of topics are those of these ids
abbrev pub AreTopicNumbers : History → List (Text × ℕ) → Type 0
AreTopicNumbers H topics = map (λ one. topic_at H one.1) topics ≡ map (λ one. Some one.0) topics

-- the topics by id, with their numbers
pub record AreTopicsById (H : History) (topics : List (Text × ℕ)) : Type 0 where
  pub by_id : map (λ one. one.0) topics ≡ topics_in_order H
  pub numbered : AreTopicNumbers H topics
