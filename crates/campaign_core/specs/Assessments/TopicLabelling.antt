-- What the labels and the grades that are kept of a topic have to do with the history's.
use Rattle.std.specs.Prelude.{◌≡◌, ◌≤◌, ◌∷◌, ℕ, Bool, false, not, List, [], None, Option, Result, Ok, Err, length, map, IsTrue}
use Rattle.std.specs.Option.{option_map_or}
use Rattle.decimal_rank.specs.declared.naming.DocId.{DocId}
use Rattle.labels.specs.LabelledDocuments.{given_at, labelled_docs as marked_docs, ruling_at}
use Rattle.qrels_view.specs.declared.grades.Graded.{Graded}
use Rattle.rulebook.specs.Words.{Text, contains_text}
use Rattle.rulebook.specs.declared.reply.Refusal.{Refusal}
use Rattle.rulebook.specs.declared.reply.Refusal.TheVariants as refusal
use Rattle.rulebook.specs.declared.reply.Reply.TheVariants as reply
use Rattle.rulebook.specs.declared.rules.Phase.TheVariants.{Judging}
use Rattle.rulebook.specs.Answers.{grade_range}
use Rattle.rulebook.specs.Campaign.{History, is_topic}
use Rattle.rulebook.specs.Judgements.Grades.{effective, is_labelled, is_labelled_by, labelled_documents, labels_on, last_ruling, trail}
use Rattle.rulebook.specs.Requests.Refusals.{Outcome, ◌when◌, unless, wrong_phase_unless}
use Rattle.campaign_core.specs.Numbering.Numbers.{are_named, doc_in, docs_in}
use Rattle.campaign_core.specs.Assessments.Topics.{LabelledTopic}

-- a document of the trail by its number, with its grade
abbrev pub graded_in : History → List Text → Text → Text → Graded
graded_in H names topic doc = record { doc = doc_in names doc; grade = effective H topic doc }

-- Each document has its labels, its ruling and its grade, and those with a label stand in their order. The documents
-- with a label or a ruling and those of the trail are among the names.
pub record IsLabelled (H : History) (names : List Text) (topic : LabelledTopic) : Type 0 where
  pub given_are : (doc : Text) → IsTrue (contains_text names doc) → given_at topic.marked (doc_in names doc) ≡ labels_on H topic.id doc
  pub rulings_are : (doc : Text) → IsTrue (contains_text names doc) → ruling_at topic.marked (doc_in names doc) ≡ last_ruling H topic.id doc
  pub given_named : (doc : DocId) → length names ≤ doc.0 → given_at topic.marked doc ≡ []
  pub labels_named : (doc : Text) → contains_text names doc ≡ false → labels_on H topic.id doc ≡ []
  pub ruled_named : (doc : DocId) → length names ≤ doc.0 → ruling_at topic.marked doc ≡ None
  pub rulings_named : (doc : Text) → contains_text names doc ≡ false → last_ruling H topic.id doc ≡ None
  pub marked_are : marked_docs topic.marked ≡ docs_in names (labelled_documents H topic.id)
  pub labelled_named : IsTrue (are_named names (labelled_documents H topic.id))
  pub graded_are : topic.graded ≡ map (graded_in H names topic.id) (trail H topic.id)
  pub trail_named : IsTrue (are_named names (trail H topic.id))

-- whether a document has a label of an assessor, or where none is named of some assessor
abbrev pub is_labelled_for : History → Text → Text → Option Text → Bool
is_labelled_for H topic doc assessor = option_map_or (is_labelled_by H topic doc) assessor (is_labelled H topic doc)

-- what the rules say of a grade for a document, by whether it has the label that is asked for
abbrev pub doc_outcome : History → Text → Bool → ℕ → Outcome
doc_outcome H topic labelled_documents grade =
    unless (wrong_phase_unless Judging H ∷ (refusal.UnknownTopic when not (is_topic H topic))
    ∷ (refusal.NotLabelled when not labelled_documents) ∷ grade_range H grade ∷ []) (Ok reply.Done)

-- what is ruled where a place was found, or why there is none
abbrev pub ruling_on : Result (ℕ × DocId) Refusal → Outcome
ruling_on (Ok place) = Ok reply.Done
ruling_on (Err why) = Err why
