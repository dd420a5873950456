-- A file has lines or a fault, and never both.
use Rattle.std.proofs.Common.{◌≡◌, inl, inr, ℕ, List, Ok, Err, Result, sym, ◌∙◌}
use Rattle.trec_formats.specs.declared.runs.lists.TopicList.{TopicList}
use Rattle.trec_formats.specs.declared.qrels.QrelLine.{QrelLine}
use Rattle.trec_formats.specs.declared.faults.FormatFault.{FormatFault}
use Rattle.trec_formats.specs.Faults.{ExactlyOne}
use Rattle.trec_formats.specs.QrelsFormat.Qrels.{IsQrels, IsQrelsFault, IsQrelsReading}
use Rattle.trec_formats.specs.RunFormat.Lists.{IsRankableReading, IsRankedRun, IsRankedRunFault}
use Rattle.eval.specs.declared.evaluation.Finding.{Finding}
use Rattle.eval.specs.declared.evaluation.Finding.TheVariants as finding
use Rattle.eval.specs.Findings.{FindsScores, IsRefusal, AreExclusive}

-- two readings of one text are one
same_reading : {X : Type 0} (P : X → Type 0) → ExactlyOne P → (x y : X) → P x → P y → x ≡ y
same_reading P one x y px py = one.2 x px ∙ sym (one.2 y py)

not_both : {L E : Type 0} (xs : List L) (fault : E) → (let a : Result (List L) E = Ok xs in a) ≡ Err fault → ⊥
not_both xs fault e = cc e

module _ (one_run : (text : List ℕ) → ExactlyOne (IsRankableReading text)) (one_qrels : (text : List ℕ) → ExactlyOne (IsQrelsReading text)) where
  run_has_no_fault : (run : List ℕ) (lists : List TopicList) (fault : FormatFault) → IsRankedRun run lists → IsRankedRunFault run fault → ⊥
  run_has_no_fault run lists fault w at = not_both w.0 fault (same_reading (IsRankableReading run) (one_run run) (Ok w.0) (Err fault) w.1 at)

  qrels_have_no_fault : (qrels : List ℕ) (lines : List QrelLine) (fault : FormatFault) → IsQrels qrels lines → IsQrelsFault qrels fault → ⊥
  qrels_have_no_fault qrels lines fault w at = not_both lines fault (same_reading (IsQrelsReading qrels) (one_qrels qrels) (Ok lines) (Err fault) w at)

  pub exclusive : AreExclusive
  exclusive run_name qrels_name run qrels text line w (inl at) = run_has_no_fault run w.0 at.0 w.2 at.1
  exclusive run_name qrels_name run qrels text line w (inr at) = qrels_have_no_fault qrels w.1 at.1 w.3 at.3

-- the run's file is named for its fault
pub run_refused : (run_name qrels_name run qrels : List ℕ) (fault : FormatFault) → IsRankedRunFault run fault
    → (found : Finding) → IsRefusal run_name fault found
    → FindsScores run_name qrels_name run qrels found
run_refused run_name qrels_name run qrels fault at (finding.Report t) w = absurd w
run_refused run_name qrels_name run qrels fault at (finding.Input l) w = inl (fault, at, w)

-- the file of the qrels is named for its fault
pub qrels_refused : (run_name qrels_name run qrels : List ℕ) (lists : List TopicList) (fault : FormatFault) → IsRankedRun run lists → IsQrelsFault qrels fault
    → (found : Finding) → IsRefusal qrels_name fault found → FindsScores run_name qrels_name run qrels found
qrels_refused run_name qrels_name run qrels lists fault r at (finding.Report t) w = absurd w
qrels_refused run_name qrels_name run qrels lists fault r at (finding.Input l) w = inr (lists, fault, r, at, w)
