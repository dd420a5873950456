-- The scores of a campaign's runs, by the effective grades. H is its list of accepted entries.
use Rattle.std.specs.Prelude.{ℕ, Bool, false, ◌&&◌, ◌++◌, List, [], Option, if◌then◌else◌, filter, find, length, map, nat_lt}
use Rattle.std.specs.List.{flat_map, list_any}
use Rattle.std.specs.Option.{option_map_or}
use Rattle.std.specs.Str.{bytes_eq}
use Rattle.measures.specs.Cells.{cell_of}
use Rattle.measures.specs.Means.{summary_of}
use Rattle.measures.specs.ScoreLines.{cell_text, summary_text}
use Rattle.measures.specs.declared.cells.Cell.{Cell}
use Rattle.measures.specs.declared.means.Summary.{Summary}
use Rattle.rulebook.specs.declared.entry.Entry.{Entry}
use Rattle.rulebook.specs.Words.{Text}
use Rattle.rulebook.specs.Campaign.{History, Run, docs_on, level, live, run_in, runs, topics}
use Rattle.rulebook.specs.Judgements.Grades.{effective, graded_documents, non_relevant_count, relevant_count}
use Rattle.rulebook.specs.Reports.Pages.{topics_in_order}

-- the run of a name, whether it is live or not
abbrev pub run_named : History → Text → Option Run
run_named H name = find (λ run. bytes_eq run.name name) (runs H)

-- whether an entry submits a run of this name
abbrev pub submits : Text → Entry → Bool
submits name e = option_map_or (λ run. bytes_eq run.name name) (run_in e.core.command) false

-- whether a caller of this name submitted the run of this name
abbrev pub is_submitter : History → Text → Text → Bool
is_submitter H caller name = list_any (λ e. submits name e && bytes_eq e.core.caller.name caller) H

-- the effective grades of a run's ranked list on a topic, by rank
abbrev pub run_grades_by_rank : History → Run → Text → List (Option ℕ)
run_grades_by_rank H run topic = map (effective H topic) (docs_on run.lists topic)

-- the cell of a run on a topic
abbrev pub cell_on : History → Run → Text → Cell
cell_on H run topic = cell_of (run_grades_by_rank H run topic) (relevant_count H topic) (non_relevant_count H topic) (level H topic)

-- a topic counts where at least one of its documents has an effective grade
abbrev pub is_counted : History → Text → Bool
is_counted H topic = nat_lt 0 (length (graded_documents H topic))

-- the topics that count
abbrev pub counted_topics : History → List Text
counted_topics H = filter (is_counted H) (map (λ t. t.id) (topics H))

-- the sums and means of a run over the topics that count
abbrev pub summary_on : History → Run → Summary
summary_on H run = summary_of (map (cell_on H run) (counted_topics H))

-- the lines of a run's cell on a topic, where the topic counts
abbrev pub cell_lines : History → Run → Text → Text
cell_lines H run topic = if is_counted H topic then cell_text run.name topic (cell_on H run topic) else []

-- the lines of a run's summary
abbrev pub summary_lines : History → Run → Text
summary_lines H run = summary_text run.name (summary_on H run)

-- the cells of a run by topic id, and then its summary
abbrev pub scores_page : History → Run → Text
scores_page H run = flat_map (cell_lines H run) (topics_in_order H) ++ summary_lines H run

-- the summaries of the live runs, by submission
abbrev pub table_page : History → Text
table_page H = flat_map (summary_lines H) (live H)
