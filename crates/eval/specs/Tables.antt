-- How the documents of a topic are judged, its cell, and lists that are looked up.
use Rattle.std.specs.Prelude.{◌≡◌, ◌≢◌, ◌≤◌, ◌+◌, ℕ, true, if◌then◌else◌, List, length, map, All, AllPairs, nat_le}
use Rattle.std.specs.Cmp.Lexicographic.{slice_cmp}
use Rattle.std.specs.Ordering.{nat_cmp, is_lt}
use Rattle.trec_formats.specs.declared.runs.lists.TopicList.{TopicList}
use Rattle.trec_formats.specs.declared.qrels.QrelLine.{QrelLine}
use Rattle.trec_formats.specs.QrelsFormat.Qrels.{grade_on}
use Rattle.measures.specs.declared.cells.Cell.{Cell}
use Rattle.measures.specs.Cells.{cell_of}
use Rattle.eval.specs.declared.judgements.Tally.{Tally}
use Rattle.eval.specs.Evaluations.{relevant_level, relevant_on, non_relevant_on}

-- no document is judged
abbrev pub no_tally : Tally
no_tally = record { relevant = 0; others = 0 }

-- one more document is judged
abbrev pub tally_more : Tally → ℕ → Tally
tally_more tally grade = if nat_le relevant_level grade
    then record { relevant = tally.relevant + 1; others = tally.others }
    else record { relevant = tally.relevant; others = tally.others + 1 }

-- how the documents of a topic are judged
abbrev pub tally_on : List QrelLine → List ℕ → Tally
tally_on qrels topic = record { relevant = relevant_on qrels topic; others = non_relevant_on qrels topic }

-- the cell of a topic, by its documents
abbrev pub cell_in : List (List ℕ) → List QrelLine → List ℕ → Cell
cell_in docs qrels topic = cell_of (map (grade_on qrels topic) docs) (relevant_on qrels topic) (non_relevant_on qrels topic) relevant_level

-- ranked lists by ascending topic, each of at most 1,000 documents that differ
pub record AreRankedLists (lists : List TopicList) : Type 0 where
  pub ascending : AllPairs (λ a b. is_lt (slice_cmp nat_cmp a.topic b.topic) ≡ true) lists
  pub short : All (λ list. length list.docs ≤ 1000) lists
  pub once : All (λ list. AllPairs (λ a b. a ≢ b) list.docs) lists
