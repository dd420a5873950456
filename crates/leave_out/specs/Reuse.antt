-- The scores of runs without the judgements that their own groups alone brought in. H is a campaign's list of accepted entries.
use Rattle.std.specs.Prelude.{◌≡◌, ℕ, ◌&&◌, Bool, true, [], List, None, Option, count_by, filter, if◌then◌else◌, map, sum_by}
use Rattle.std.specs.List.{list_all}
use Rattle.std.specs.Str.{bytes_eq}
use Rattle.rulebook.specs.Words.{Text, contains_text}
use Rattle.rulebook.specs.Campaign.{History, Run, numbered_runs, pool}
use Rattle.rulebook.specs.Judgements.Grades.{effective, graded_documents}
use Rattle.campaign_core.specs.Views.Gradings.{summary_by}
use Rattle.campaign_core.specs.Views.Groups.{group_of}
use Rattle.campaign_core.specs.Assessments.Topics.{topic_ids}
use Rattle.rulebook.specs.Judgements.Holders.{holders}
use Rattle.rulebook.specs.Reports.Scores.{summary_on}
use Rattle.rulebook.specs.Reports.Systems.{is_mean}
use Rattle.leave_out.specs.declared.reusability.Reused.{Reused}

-- the documents of a topic's pool that runs of a group alone hold
abbrev pub own : History → Text → Text → List Text
own H group topic = filter (λ doc. list_all (λ run. bytes_eq (group_of H run.0) group) (holders H topic doc)) (pool H topic)

-- the reduced judgements of a group: the effective grades of a topic but for those of the group's own documents
abbrev pub reduced_grade : History → Text → Text → Text → Option ℕ
reduced_grade H group topic doc = if contains_text (own H group topic) doc then None else effective H topic doc

-- how many documents with an effective grade are a group's own, over all topics
abbrev pub unique_count : History → Text → ℕ
unique_count H group = sum_by (λ topic. count_by (contains_text (own H group topic)) (graded_documents H topic)) (topic_ids H)

-- the mean average precision of a run by the reduced judgements of a group
abbrev pub reduced_map : History → Text → Run → ℕ
reduced_map H group run = (summary_by H run (reduced_grade H group)).map

-- a numbered run, without what its own group alone brought in
abbrev pub reuse_of : History → ℕ × Run → Reused
reuse_of H run = record {
  run = run.1.name;
  unique = unique_count H (group_of H run.0);
  full = (summary_on H run.1).map;
  reduced = reduced_map H (group_of H run.0) run.1;
}

-- the live runs, by submission
abbrev pub reuse : History → List Reused
reuse H = map (reuse_of H) (numbered_runs H)

-- both means of a run are at most 1
abbrev pub are_reused_means : Reused → Bool
are_reused_means row = is_mean row.full && is_mean row.reduced

-- a group brought no document in alone
abbrev pub OwnsNothing : History → Text → Type 0
OwnsNothing H group = (topic : Text) → contains_text (topic_ids H) topic ≡ true → own H group topic ≡ []

-- Where a group owns nothing, a run's reduced mean is its mean by all grades.
abbrev pub ReducedIsFull : Type 0
ReducedIsFull = (H : History) (group : Text) (run : Run) → OwnsNothing H group → reduced_map H group run ≡ (summary_on H run).map
