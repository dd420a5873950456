-- The reduced judgements of a group: the effective grades of topics without those of the group's own documents.
use Rattle.std.specs.Prelude.{◌≡◌, ℕ, ◌&&◌, ◌||◌, ◌+◌, ◌≤◌, All, Bool, IsTrue, List, None, Option, Some, count_by, filter, if◌then◌else◌, is_some, length, map, nat_lt, sum_by, unwrap_or}
use Rattle.decimal_rank.specs.Relevance.{is_non_relevant, is_relevant}
use Rattle.decimal_rank.specs.declared.naming.DocId.{DocId}
use Rattle.depth_pool.specs.declared.runs.RunId.{RunId}
use Rattle.rulebook.specs.Requests.Limits.{max_entries}
use Rattle.rulebook.specs.Spelling.{differ}
use Rattle.rulebook.specs.Words.{Text, contains_text}
use Rattle.rulebook.specs.Campaign.{History, Run, docs_on, level}
use Rattle.rulebook.specs.Judgements.Grades.{effective, graded_documents, labelled_documents}
use Rattle.measures.specs.Means.{value_of}
use Rattle.measures.specs.declared.means.Measure.TheVariants.{Map}
use Rattle.campaign_core.specs.Views.Gradings.{cell_by_grading, counts_by}
use Rattle.campaign_core.specs.Views.LentTopics.{topic_at}
use Rattle.campaign_core.specs.Numbering.Numbers.{are_named, doc_in, names_of}
use Rattle.campaign_core.specs.Assessments.RunScores.{run_at}
use Rattle.campaign_core.specs.Assessments.Topics.{topic_ids}
use Rattle.leave_out.specs.Reuse.{own, reduced_grade}
use Rattle.leave_out.specs.declared.groups.GroupJudgements.{GroupJudgements}
use Rattle.leave_out.specs.declared.reduced_judgements.ReducedJudgements.{ReducedJudgements}
use Rattle.leave_out.specs.declared.reusability.Sums.{Sums}

-- a document of a topic, by their numbers
pub record IsDocAt (H : History) (topic : ℕ) (id doc : Text) (number : DocId) : Type 0 where
  pub at : topic_at H topic ≡ Some id
  pub named : IsTrue (contains_text (names_of H) doc)
  pub number_is : number ≡ doc_in (names_of H) doc

-- a live run, by its number; it names no document twice on a topic
pub record IsLive (H : History) (number : RunId) (run : ℕ × Run) : Type 0 where
  pub number_is : run.0 ≡ number.0
  pub run_is : run_at H number ≡ Some run.1
  pub named : (topic : Text) → IsTrue (are_named (names_of H) (docs_on run.1.lists topic))
  pub once : (topic : Text) → IsTrue (differ (docs_on run.1.lists topic))

-- 1 for what counts, and 0 for what doesn't
abbrev pub one_if : Bool → ℕ
one_if counts = if counts then 1 else 0

-- one more document with such a grade, which may be the group's own
abbrev pub with_doc : ℕ → Option ℕ → Bool → ReducedJudgements → ReducedJudgements
with_doc level grade owned judgements =
    let kept : Option ℕ = if owned then None else grade in
    record {
      relevant = judgements.relevant + one_if (is_relevant level kept);
      lower = judgements.lower + one_if (is_non_relevant level kept);
      own = judgements.own + one_if (is_some grade && owned);
    }

-- of these documents of a topic, those that are relevant by the reduced judgements of a group, those with a lower grade, and the group's own with a grade
abbrev pub reduced_in : History → Text → Text → List Text → ReducedJudgements
reduced_in H group topic docs = record {
  relevant = count_by (λ doc. is_relevant (level H topic) (reduced_grade H group topic doc)) docs;
  lower = count_by (λ doc. is_non_relevant (level H topic) (reduced_grade H group topic doc)) docs;
  own = count_by (λ doc. is_some (effective H topic doc) && contains_text (own H group topic) doc) docs;
}

-- no more of each than a campaign has entries
pub record AreFew (judgements : ReducedJudgements) : Type 0 where
  pub relevant : judgements.relevant ≤ max_entries
  pub lower : judgements.lower ≤ max_entries
  pub own : judgements.own ≤ max_entries

-- the reduced judgements of a group, topic by topic
pub record AreReduced (H : History) (group : Text) (topics : List ReducedJudgements) : Type 0 where
  pub topics_are : topics ≡ map (λ topic. reduced_in H group topic (labelled_documents H topic)) (topic_ids H)
  pub few : All AreFew topics

abbrev pub group_in : GroupJudgements → Text
group_in judgements = judgements.group

abbrev pub AreOfGroup : History → GroupJudgements → Type 0
AreOfGroup H judgements = AreReduced H judgements.group judgements.topics.items

-- whether a document has a grade
abbrev pub has_any_grade : ReducedJudgements → Bool
has_any_grade judgements = nat_lt 0 judgements.relevant || nat_lt 0 judgements.lower

-- the average precision of a run on a topic by the reduced judgements of a group, where the topic still counts
abbrev pub value_on : History → Text → Run → Text → Option ℕ
value_on H group run topic =
    if counts_by H topic (reduced_grade H group topic) then Some (value_of Map (cell_by_grading H run topic (reduced_grade H group topic))) else None

-- over some topics, a group's own documents with a grade; and the topics that count without them, with the sum of a run's average precisions
abbrev pub sums_in : History → Text → Run → List Text → Sums
sums_in H group run topics =
    let counted = filter (λ topic. counts_by H topic (reduced_grade H group topic)) topics in
    record {
      own = sum_by (λ topic. count_by (contains_text (own H group topic)) (graded_documents H topic)) topics;
      topics = length counted;
      precisions = sum_by (λ topic. value_of Map (cell_by_grading H run topic (reduced_grade H group topic))) counted;
    }

-- one more topic
abbrev pub with_topic : ℕ → Option ℕ → Sums → Sums
with_topic owned value sums = record {
  own = sums.own + owned;
  topics = sums.topics + one_if (is_some value);
  precisions = sums.precisions + unwrap_or value 0;
}
