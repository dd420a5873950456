-- How the judgements and the runs of a campaign stand whose list of accepted entries is H.
use Rattle.std.specs.Prelude.{◌≡◌, ◌+◌, ◌≤◌, ◌^◌, ◌==◌, ℕ, max, List, Option, Some, find, map, slice_get, sum_by}
use Rattle.std.specs.List.{fold}
use Rattle.std.specs.Option.{option_map}
use Rattle.depth_pool.specs.declared.runs.RunId.{RunId}
use Rattle.rulebook.specs.Campaign.{History, Run, live, runs}
use Rattle.rulebook.specs.Judgements.Grades.{non_relevant_count, relevant_count}
use Rattle.rulebook.specs.Reports.Scores.{summary_on}
use Rattle.rulebook.specs.Words.{Text}
use Rattle.campaign_core.specs.Assessments.Topics.{topic_ids}
use Rattle.campaign_core.specs.declared.tallies.Tally.{Tally}

-- how many documents of all topics are relevant
abbrev pub relevant_in_all : History → ℕ
relevant_in_all H = sum_by (relevant_count H) (topic_ids H)

-- how many documents of a topic have an effective grade
abbrev pub judged_on : History → Text → ℕ
judged_on H topic = relevant_count H topic + non_relevant_count H topic

-- and of all topics
abbrev pub judged_in : History → ℕ
judged_in H = sum_by (judged_on H) (topic_ids H)

-- the mean average precision of a run, in units of 10^-15
abbrev pub map_of : History → Run → ℕ
map_of H run = (summary_on H run).map

-- the greatest value of some runs: 0 where there are none
abbrev pub greatest : (Run → ℕ) → List Run → ℕ
greatest value runs = fold max 0 (map value runs)

-- the first of the runs with the greatest value
abbrev pub first_best : (Run → ℕ) → List Run → Option Run
first_best value runs = find (λ run. value run == greatest value runs) runs

-- the live run with the greatest mean average precision, the earliest submitted of several
abbrev pub best_run : History → Option Run
best_run H = first_best (map_of H) (live H)

-- its mean average precision: 0 where no run is live
abbrev pub best_map : History → ℕ
best_map H = greatest (map_of H) (live H)

-- the run of a number of submission
abbrev pub submitted_at : History → RunId → Option Run
submitted_at H run = slice_get (runs H) run.0

-- a tally tells all this, the run by its number of submission
pub record IsTally (H : History) (tally : Tally) : Type 0 where
  pub judged_is : tally.judged ≡ judged_in H
  pub relevant_is : tally.relevant ≡ relevant_in_all H
  pub best_is : option_map (submitted_at H) tally.best ≡ option_map Some (best_run H)
  pub map_is : tally.map ≡ best_map H
  pub map_fits : tally.map ≤ 10 ^ 15

-- a run by its number of submission, and a value: the best live run and its mean
pub record IsBest (H : History) (run : Option RunId) (value : ℕ) : Type 0 where
  pub best : option_map (submitted_at H) run ≡ option_map Some (best_run H)
  pub map : value ≡ best_map H
  pub fits : value ≤ 10 ^ 15
