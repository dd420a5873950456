-- What is kept of the topics, as the history has it.
use Rattle.std.specs.Prelude.{◌≡◌, ◌<◌, ℕ, All, List, [], get_or, length, map}
use Rattle.depth_pool.specs.Holdings.{Held}
use Rattle.labels.specs.LabelledDocuments.{LabelledDocument}
use Rattle.qrels_view.specs.declared.grades.Graded.{Graded}
use Rattle.assessment.specs.TopicFacts.{TopicFacts}
use Rattle.rulebook.specs.declared.rules.Rules.{Rules}
use Rattle.rulebook.specs.Words.{Text, in_order}
use Rattle.rulebook.specs.Campaign.{History, Run, held_documents, level, level_in, need, needed_labels, numbered_runs, rules_of, topics}
use Rattle.campaign_core.specs.Numbering.Numbers.{docs_in, names_of}

-- a topic: what the rules say of it, and the runs of its pool
pub record KeptTopic : Type 0 where
  pub id : Text
  pub labels_needed : ℕ
  pub level : ℕ
  pub depth : ℕ
  pub runs : List Held

abbrev pub kept_topic : TopicFacts → KeptTopic
kept_topic topic = record { id = topic.id; labels_needed = topic.need; level = topic.level; depth = topic.depth; runs = topic.pool }

-- a topic before any run
abbrev pub empty_topic : Rules → Text → KeptTopic
empty_topic rules id = record { id = id; labels_needed = needed_labels rules id; level = level_in rules id; depth = rules.depth; runs = [] }

-- a numbered run, and what it holds on a topic
abbrev pub held_of : History → Text → ℕ × Run → Held
held_of H topic p = record { run = record { 0 = p.0 }; docs = docs_in (names_of H) (held_documents H topic p.1) }

-- the runs of a topic's pool, numbered by submission
abbrev pub pool_of : History → Text → List Held
pool_of H topic = map (held_of H topic) (numbered_runs H)

-- a topic of a history
abbrev pub kept_topic_of : History → Text → KeptTopic
kept_topic_of H id = record { id = id; labels_needed = need H id; level = level H id; depth = (rules_of H).depth; runs = pool_of H id }

abbrev pub topic_ids : History → List Text
topic_ids H = map (λ topic. topic.id) (topics H)

-- the ids of topics that are kept
abbrev pub fact_ids : List TopicFacts → List Text
fact_ids topics = map (λ topic. topic.id) topics

-- these are the numbers of all topics, by id
pub record AreById (topics : List TopicFacts) (numbers : List ℕ) : Type 0 where
  pub within : All (λ number. number < length topics) numbers
  pub ids_are : map (λ number. get_or (fact_ids topics) number []) numbers ≡ in_order (fact_ids topics)

-- the labels of a topic's documents, and their grades by the first ones
pub record LabelledTopic : Type 0 where
  pub id : Text
  pub marked : List LabelledDocument
  pub graded : List Graded

abbrev pub labelled_of : TopicFacts → LabelledTopic
labelled_of topic = record { id = topic.id; marked = topic.marked; graded = topic.graded }

-- a topic before any label
abbrev pub unlabelled_topic : Text → LabelledTopic
unlabelled_topic id = record { id = id; marked = []; graded = [] }
