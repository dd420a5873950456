-- What the bytes of two files come to.
use Rattle.std.specs.Prelude.{◌≡◌, ℕ, List}
use Rattle.trec_formats.specs.declared.faults.FormatFault.{FormatFault}
use Rattle.eval.specs.declared.evaluation.Finding.{Finding}
use Rattle.eval.specs.declared.evaluation.Finding.TheVariants as finding
use Rattle.eval.specs.Evaluations.{IsReport, IsInputFault, input_line}

-- their scores were found, or the file that is refused
abbrev pub FindsScores : List ℕ → List ℕ → List ℕ → List ℕ → Finding → Type 0
FindsScores run_name qrels_name run qrels (finding.Report text) = IsReport run_name run qrels text.items
FindsScores run_name qrels_name run qrels (finding.Input line) = IsInputFault run_name qrels_name run qrels line.items

-- the file was named, and its fault
abbrev pub IsRefusal : List ℕ → FormatFault → Finding → Type 0
IsRefusal file fault (finding.Report text) = ⊥
IsRefusal file fault (finding.Input line) = line.items ≡ input_line file fault

-- no two files are both scored and refused
abbrev pub AreExclusive : Type 0
AreExclusive = (run_name qrels_name run qrels text line : List ℕ) → IsReport run_name run qrels text
    → IsInputFault run_name qrels_name run qrels line → ⊥
