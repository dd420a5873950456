-- What is known of one topic, and how it changes.
use Rattle.std.specs.Prelude.{◌≡◌, ◌-◌, ◌<◌, ◌≤◌, ◌^◌, ℕ, nat_le, IsTrue, List, [], Option, Some, IsPermutation, length, map, take}
use Rattle.std.specs.Option.{option_map}
use Rattle.decimal_rank.specs.declared.naming.DocId.{DocId}
use Rattle.depth_pool.specs.declared.runs.RunId.{RunId}
use Rattle.depth_pool.specs.Holdings.{Held, with_run, without_run}
use Rattle.labels.specs.LabelledDocuments.{LabelledDocument, effective_at, given_at, is_labelled_document, with_label_at, with_ruling_at}
use Rattle.mtf_queue.specs.QueueView.{QueueView}
use Rattle.mtf_queue.specs.Rule.{IsInOrder}
use Rattle.mtf_queue.specs.declared.rule.Judged.{Judged}
use Rattle.qrels_view.specs.Grades.{with_grade}
use Rattle.qrels_view.specs.declared.grades.Graded.{Graded}
use Rattle.assessment.specs.declared.change.Judgement.{Judgement}
use Rattle.assessment.specs.declared.change.Judgement.TheVariants as mark
use Rattle.assessment.specs.declared.topic.TopicRules.{TopicRules}

-- a topic: its id, how many labels a document needs, the grade from which on a document is relevant, the depth of the
-- pool, the runs with what they hold, the labels and rulings, and the effective grades by the first ones
pub record TopicFacts : Type 0 where
  pub id : List ℕ
  pub need : ℕ
  pub level : ℕ
  pub depth : ℕ
  pub pool : List Held
  pub marked : List LabelledDocument
  pub graded : List Graded

-- a topic as contracts see it: the documents of the run for which the pool has room, the document for whose label there
-- is room, and the room for more grades and for more runs and judged documents
pub record TopicView : Type 0 where
  pub facts : TopicFacts
  pub pool_room : Option (List DocId)
  pub label_room : Option DocId
  pub grade_room : ℕ
  pub queue_room : ℕ

-- a topic before any run
abbrev pub new_topic : TopicRules → TopicFacts
new_topic rules = record { id = rules.id; need = rules.need; level = rules.level; depth = rules.depth; pool = []; marked = []; graded = [] }

abbrev pub facts_of : TopicView → TopicFacts
facts_of topic = topic.facts

abbrev pub view_grades : TopicView → List Graded
view_grades topic = topic.facts.graded

-- a topic with one more run, which holds the first documents of its list
abbrev pub topic_with_list : RunId → List DocId → TopicFacts → TopicFacts
topic_with_list run docs topic = record topic { pool = with_run (record { run = run; docs = take topic.depth docs }) topic.pool }

-- a topic without a run
abbrev pub without_list : RunId → TopicFacts → TopicFacts
without_list run topic = record topic { pool = without_run run topic.pool }

-- a topic of which a document has another grade, or none
abbrev pub topic_with_grade : DocId → Option ℕ → TopicFacts → TopicFacts
topic_with_grade doc grade topic = record topic { graded = with_grade doc grade topic.graded }

-- a topic with the grade that its labels and rulings give a document
abbrev pub with_effective : DocId → TopicFacts → TopicFacts
with_effective doc topic = topic_with_grade doc (effective_at topic.need topic.marked doc) topic

-- a topic after an assessor gives a document a grade
abbrev pub topic_with_label : DocId → List ℕ → ℕ → TopicFacts → TopicFacts
topic_with_label doc assessor grade topic = with_effective doc (record topic { marked = with_label_at doc assessor grade topic.marked })

-- a topic after a ruling on a document
abbrev pub with_ruling : DocId → ℕ → TopicFacts → TopicFacts
with_ruling doc grade topic = with_effective doc (record topic { marked = with_ruling_at doc grade topic.marked })

-- there is room for a run with this list
pub record AwaitsRun (docs : List DocId) (topic : TopicView) : Type 0 where
  pub pool : topic.pool_room ≡ Some (take topic.facts.depth docs)
  pub place : 1 ≤ topic.queue_room

-- there is room for one more grade
pub record AwaitsGrade (topic : TopicView) : Type 0 where
  pub grade : 1 ≤ topic.grade_room
  pub place : 1 ≤ topic.queue_room

-- there is room for a label of this document, and for the grade that a label or a ruling gives it
pub record AwaitsJudgement (doc : DocId) (topic : TopicView) : Type 0 where
  pub label : topic.label_room ≡ Some doc
  pub grade : AwaitsGrade topic

-- a document of the trail, and whether it is relevant
abbrev pub judged_of : ℕ → Graded → Judged
judged_of level one = record { doc = one.doc; relevant = option_map (nat_le level) one.grade }

-- The queue has the runs of the pool in the judging order, by the grades.
pub record IsQueued (level : ℕ) (pool : List Held) (graded : List Graded) (queue : QueueView) : Type 0 where
  pub runs : IsPermutation (map (λ held. held.run) pool) queue.order
  pub in_order : IsInOrder pool queue.trail queue.order
  pub trail_is : queue.trail ≡ map (judged_of level) graded

-- a document may get a label: it has few, and the topic has few grades
pub record MayLabel (doc : DocId) (topic : TopicFacts) : Type 0 where
  pub few_labels : length (given_at topic.marked doc) < 2 ^ 32 - 1
  pub few_grades : length topic.graded < 268435456

-- a document may be ruled on: it has a label, and the topic has few grades
pub record MayRule (doc : DocId) (topic : TopicFacts) : Type 0 where
  pub labelled : IsTrue (is_labelled_document topic.marked doc)
  pub few_grades : length topic.graded < 268435456

-- the document of a mark
abbrev pub judgement_doc : Judgement → DocId
judgement_doc (mark.Label label) = label.doc
judgement_doc (mark.Ruling ruling) = ruling.doc

-- a topic after a document of it gets a mark
abbrev pub topic_with_judgement : Judgement → TopicFacts → TopicFacts
topic_with_judgement (mark.Label label) topic = topic_with_label label.doc label.assessor label.grade topic
topic_with_judgement (mark.Ruling ruling) topic = with_ruling ruling.doc ruling.grade topic

-- a mark that its document may get
abbrev pub MayJudge : Judgement → TopicFacts → Type 0
MayJudge (mark.Label label) topic = MayLabel label.doc topic
MayJudge (mark.Ruling ruling) topic = MayRule ruling.doc topic
