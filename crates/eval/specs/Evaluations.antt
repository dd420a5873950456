-- What a run scores against qrels, from the bytes of the two files.
use Rattle.std.specs.Prelude.{◌≡◌, ◌⊎◌, ℕ, ◌&&◌, List, [], ◌++◌, map, find, count_by, bytes_eq, nat_le, nat_lt, codes, decimal, ◌∷◌}
use Rattle.std.specs.List.{concat, fold}
use Rattle.std.specs.Option.{option_map_or}
use Rattle.decimal_rank.specs.Names.{with_name}
use Rattle.measures.specs.declared.cells.Cell.{Cell}
use Rattle.measures.specs.Cells.{cell_of}
use Rattle.measures.specs.Means.{summary_of}
use Rattle.measures.specs.ScoreLines.{summary_text}
use Rattle.trec_formats.specs.declared.runs.lists.TopicList.{TopicList}
use Rattle.trec_formats.specs.declared.qrels.QrelLine.{QrelLine}
use Rattle.trec_formats.specs.declared.faults.FormatFault.{FormatFault}
use Rattle.trec_formats.specs.declared.faults.Kind.{Kind}
use Rattle.trec_formats.specs.declared.faults.Kind.TheVariants as kind
use Rattle.trec_formats.specs.FaultNames.{cause_name, kind_name}
use Rattle.trec_formats.specs.RunFormat.Lists.{IsRankedRun, IsRankedRunFault}
use Rattle.trec_formats.specs.QrelsFormat.Qrels.{grade_on, IsQrels, IsQrelsFault}

-- the grade from which on a document is relevant
abbrev pub relevant_level : ℕ
relevant_level = 1

-- how many documents of a topic are relevant
abbrev pub relevant_on : List QrelLine → List ℕ → ℕ
relevant_on qrels topic = count_by (λ line. bytes_eq line.topic topic && nat_le relevant_level line.grade) qrels

-- how many documents of a topic are judged and not relevant
abbrev pub non_relevant_on : List QrelLine → List ℕ → ℕ
non_relevant_on qrels topic = count_by (λ line. bytes_eq line.topic topic && nat_lt line.grade relevant_level) qrels

-- the run's documents on a topic, by rank; none where the run lacks the topic
abbrev pub run_docs_on : List TopicList → List ℕ → List (List ℕ)
run_docs_on lists topic = option_map_or (λ list. list.docs) (find (λ list. bytes_eq list.topic topic) lists) []

-- the cell of the run on a topic
abbrev pub evaluated_cell : List TopicList → List QrelLine → List ℕ → Cell
evaluated_cell lists qrels topic =
    cell_of (map (grade_on qrels topic) (run_docs_on lists topic)) (relevant_on qrels topic) (non_relevant_on qrels topic) relevant_level

-- the topics of the qrels, each at its first line
abbrev pub topics_of : List QrelLine → List (List ℕ)
topics_of qrels = fold with_name [] (map (λ line. line.topic) qrels)

-- the summary of the run over the topics of the qrels
abbrev pub scores_text : List ℕ → List TopicList → List QrelLine → List ℕ
scores_text name lists lines = summary_text name (summary_of (map (evaluated_cell lists lines) (topics_of lines)))

-- The text is the summary of the run over the topics of the qrels. Its first field is the run's name.
abbrev pub IsReport : List ℕ → List ℕ → List ℕ → List ℕ → Type 0
IsReport name run qrels text =
    (lists : List TopicList) × (lines : List QrelLine) × IsRankedRun run lists × IsQrels qrels lines
    × (text ≡ scores_text name lists lines)

-- what follows a kind's name: the cause of a score's fault, the line that is repeated
abbrev pub fault_detail : Kind → List ℕ
fault_detail kind.Fields = []
fault_detail kind.Topic = []
fault_detail kind.Docno = []
fault_detail (kind.Score cause) = codes " " ++ cause_name cause
fault_detail kind.Grade = []
fault_detail kind.Empty = []
fault_detail kind.TooLong = []
fault_detail kind.Tag = []
fault_detail (kind.Twice first) = codes " first " ++ decimal first

-- the line that names a refused file, and its first fault
abbrev pub input_line : List ℕ → FormatFault → List ℕ
input_line name fault =
    concat (codes "input: " ∷ name ∷ codes " line " ∷ decimal fault.line ∷ codes " " ∷ kind_name fault.kind ∷ fault_detail fault.kind ∷ codes "\n" ∷ [])

-- The text names the file that has a fault, and the fault: the run's, or else that of the qrels.
abbrev pub IsInputFault : List ℕ → List ℕ → List ℕ → List ℕ → List ℕ → Type 0
IsInputFault run_name qrels_name run qrels text =
    ((fault : FormatFault) × IsRankedRunFault run fault × (text ≡ input_line run_name fault))
    ⊎ ((lists : List TopicList) × (fault : FormatFault) × IsRankedRun run lists × IsQrelsFault qrels fault
    × (text ≡ input_line qrels_name fault))
