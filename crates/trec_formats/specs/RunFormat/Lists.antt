-- The ranked lists of a run, one for each topic.
use Rattle.std.specs.Prelude.{◌≡◌, ◌≢◌, ◌-◌, ℕ, ◌&&◌, Bool, true, List, length, map, filter, All, Any, AllPairs, Some, Ok, Err, Result, slice_get, bytes_eq}
use Rattle.std.specs.Cmp.Lexicographic.{slice_cmp}
use Rattle.std.specs.Option.{option_map}
use Rattle.std.specs.Ordering.{nat_cmp, is_lt}
use Rattle.decimal_rank.specs.Rankings.Ranks.{Standing, rank_in}
use Rattle.trec_formats.specs.declared.runs.lists.TopicList.{TopicList}
use Rattle.trec_formats.specs.declared.runs.RunLine.{RunLine}
use Rattle.trec_formats.specs.declared.faults.FormatFault.{FormatFault}
use Rattle.trec_formats.specs.Faults.{IsDistinct, IsReadOnce, IsTwice}
use Rattle.trec_formats.specs.RunFormat.Runs.{IsRunReading}

abbrev pub same_run_document : RunLine → RunLine → Bool
same_run_document a b = bytes_eq a.topic b.topic && bytes_eq a.doc b.doc

-- the lines of a topic
abbrev pub lines_on : List ℕ → List RunLine → List RunLine
lines_on topic lines = filter (λ line. bytes_eq line.topic topic) lines

abbrev pub standing : RunLine → Standing
standing line = record { score = line.score; docno = line.doc }

-- the document of each line stands once, at its rank among these lines
pub record AreRanked (lines : List RunLine) (docs : List (List ℕ)) : Type 0 where
  pub size : length docs ≡ length lines
  pub once : AllPairs (λ a b. a ≢ b) docs
  pub places : All (λ line. slice_get docs (rank_in (map standing lines) (standing line) - 1) ≡ Some line.doc) lines

-- the list of a topic
pub record IsListOf (lines : List RunLine) (list : TopicList) : Type 0 where
  pub first : option_map (λ line. line.line) (slice_get (lines_on list.topic lines) 0) ≡ Some list.line
  pub docs : AreRanked (lines_on list.topic lines) list.docs

-- the lists of the topics of these lines, none of which repeats a document of its topic
pub record AreLists (lines : List RunLine) (lists : List TopicList) : Type 0 where
  pub distinct : IsDistinct same_run_document lines
  pub ascending : AllPairs (λ a b. is_lt (slice_cmp nat_cmp a.topic b.topic) ≡ true) lists
  pub each : All (IsListOf lines) lists
  pub whole : All (λ line. Any (λ list. list.topic ≡ line.topic) lists) lines

-- the least line that repeats the document of an earlier line of its topic
abbrev pub IsListsFault : List RunLine → FormatFault → Type 0
IsListsFault lines fault = IsTwice same_run_document (λ line. line.line) lines fault

-- What a run's text is read as: its lines, its first fault, or else its first repeat of a document on a topic.
abbrev pub IsRankableReading : List ℕ → Result (List RunLine) FormatFault → Type 0
IsRankableReading text = IsReadOnce (IsRunReading text) same_run_document (λ line. line.line)

-- a text of these lines, which has these ranked lists
abbrev pub IsRankedRun : List ℕ → List TopicList → Type 0
IsRankedRun text lists = (lines : List RunLine) × IsRankableReading text (Ok lines) × AreLists lines lists

-- the fault of a text that has no ranked lists
abbrev pub IsRankedRunFault : List ℕ → FormatFault → Type 0
IsRankedRunFault text fault = IsRankableReading text (Err fault)
