use Rattle.std.proofs.Common.{subst}
use Rattle.std.proofs.lemmas.Result.{err_from_is_err_and}
use Rattle.trec_formats.specs.Faults.{IsDistinct, IsTwice}
use Rattle.trec_formats.specs.RunFormat.LineViews.{view_shown}
use Rattle.trec_formats.specs.RunFormat.Lists.{same_run_document}
use Rattle.trec_formats.proofs.RepeatedDocuments.ShownLines.{viewed_distinct, viewed_twice}
use Rattle.trec_formats.proofs.RunTexts.RunLines.{of_fault_weaker}
use Rattle.trec_formats.proofs.runs.repeats.check_distinct.Goals as goal

pub returns-in_err-table_of-clause-fault : goal.returns-in_err-table_of-clause-fault
returns-in_err-table_of-clause-fault c =
    let p = err_from_is_err_and c.from_residual-in_err-table_of.result c.from_residual-in_err-table_of.ensures.1 in
    rw (p.1, p.2) (of_fault_weaker c.in_err-table_of.field-0.0 (λ fault twice.
    subst (λ lines. IsTwice same_run_document (λ line. line.line) lines fault) c.in_ok-views.ensures
    (viewed_twice view_shown same_run_document (λ line. line.line) c.in_ok-views.views.items fault (rw c.as_slice.ensures.value at twice)))
    c.in_err-table_of.ensures.fault)

pub returns-clause-distinct : goal.returns-clause-distinct
returns-clause-distinct c =
    subst (IsDistinct same_run_document) c.in_ok-views.ensures
    (viewed_distinct view_shown same_run_document (λ line. line.line) c.in_ok-views.views.items
    (rw c.as_slice.ensures.value at c.in_ok-table_of.ensures.distinct))
