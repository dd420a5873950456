use Rattle.std.proofs.Common.{sym}
use Rattle.std.proofs.lemmas.Bool.{eqb-true}
use Rattle.std.proofs.lemmas.List.{nil_from_length}
use Rattle.std.proofs.lemmas.Result.{err_from_is_err_and}
use Rattle.trec_formats.proofs.TopicTexts.TopicProgress.{begins, ends_within, finishes, goes_on, skips, stops_with, there_test, white_test}
use Rattle.trec_formats.proofs.topics.read_blocks.Goals as goal

pub loop-rest-init : goal.loop-rest-init
loop-rest-init c = rw c.new-topics.ensures.items (begins c.args.bytes.now)

pub returns-in_err-open_block-clause-fault : goal.returns-in_err-open_block-clause-fault
returns-in_err-open_block-clause-fault c =
    let there = there_test _ _ _ c.strip-line.ensures c.is_empty-in-loop-rest.ensures c.if-not-is_empty.true in
    let p = err_from_is_err_and c.from_residual.result c.from_residual.ensures.1 in
    let told = rw (c.mark_of.ensures, c.strip-line.ensures) at c.in_err-open_block.ensures in
    rw (p.1, p.2) (stops_with _ _ _ _ _ c.loop-rest.invariant _ _ c.cut_line.ensures.cut there c.in_err-open_block.field-0.0 told)

pub loop-rest-preserved-then-not-is_empty : goal.loop-rest-preserved-then-not-is_empty
loop-rest-preserved-then-not-is_empty c =
    let there = there_test _ _ _ c.strip-line.ensures c.is_empty-in-loop-rest.ensures c.if-not-is_empty.true in
    let told = rw (c.mark_of.ensures, c.strip-line.ensures) at c.in_ok-open_block.ensures in
    goes_on _ _ _ _ _ c.loop-rest.invariant _ _ c.cut_line.ensures.cut c.cut_line.ensures.shorter there
    (c.read_mark.new.topics.items, c.in_ok-open_block.open_block) told

pub loop-rest-preserved : goal.loop-rest-preserved
loop-rest-preserved c =
    skips _ _ _ _ _ c.loop-rest.invariant _ _ c.cut_line.ensures.cut c.cut_line.ensures.shorter
    (white_test _ _ _ c.strip-line.ensures c.is_empty-in-loop-rest.ensures c.if-not-is_empty.false)

pub returns-clause-fault : goal.returns-clause-fault
returns-clause-fault c =
    let none = nil_from_length c.loop-rest.rest.now (eqb-true _ _ (sym c.loop-rest-test.ensures)) in
    (finishes _ _ _ _ _ c.loop-rest.invariant none c.finished.result (λ found. found.items) c.finished.ensures).1

pub returns-clause-within : goal.returns-clause-within
returns-clause-within c =
    let none = nil_from_length c.loop-rest.rest.now (eqb-true _ _ (sym c.loop-rest-test.ensures)) in
    ends_within _ _ _ _ _ c.loop-rest.invariant none c.finished.result (λ found. found.items) c.finished.ensures

pub returns-clause-topics : goal.returns-clause-topics
returns-clause-topics c =
    let none = nil_from_length c.loop-rest.rest.now (eqb-true _ _ (sym c.loop-rest-test.ensures)) in
    (finishes _ _ _ _ _ c.loop-rest.invariant none c.finished.result (λ found. found.items) c.finished.ensures).0
