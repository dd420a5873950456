use Rattle.std.proofs.Common.{inr}
use Rattle.std.proofs.lemmas.Result.{err_from_is_err_and}
use Rattle.trec_formats.specs.RunFormat.LineViews.{qrel_shown}
use Rattle.trec_formats.specs.QrelsFormat.Qrels.{same_judged_document}
use Rattle.trec_formats.proofs.RepeatedDocuments.ShownLines.{viewed_distinct, viewed_twice}
use Rattle.trec_formats.proofs.RunTexts.RunLines.{of_fault_weaker}
use Rattle.trec_formats.proofs.qrels.qrel_tables.read_qrel_table.Goals as goal

pub returns-in_err-table-clause-fault : goal.returns-in_err-table-clause-fault
returns-in_err-table-clause-fault c =
    let p = err_from_is_err_and c.from_residual-in_err-table.result c.from_residual-in_err-table.ensures.1 in
    rw (p.1, p.2) (of_fault_weaker c.in_err-table.field-0.0 (λ fault twice.
    inr (
      _,
      c.in_ok-lines.ensures.lines,
      viewed_twice qrel_shown same_judged_document (λ line. line.line) c.in_ok-lines.lines.items fault
          (rw c.as_slice.ensures.value at twice),
    )) c.in_err-table.ensures.fault)

pub returns-clause-lines : goal.returns-clause-lines
returns-clause-lines c = (
  c.in_ok-lines.ensures.lines,
  viewed_distinct qrel_shown same_judged_document (λ line. line.line) c.in_ok-lines.lines.items
      (rw c.as_slice.ensures.value at c.in_ok-table.ensures.distinct),
)
