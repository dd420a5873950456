use Rattle.std.proofs.Common.{sym, ◌∙◌}
use Rattle.std.proofs.lemmas.Result.{err_from_is_err_and}
use Rattle.trec_formats.proofs.RunTexts.RunLines.{of_fault_weaker}
use Rattle.trec_formats.proofs.RunTexts.WholeLines.{advance_whole, advance_faulty}
use Rattle.trec_formats.proofs.runs.run_reader.advance.Goals as goal

pub returns-in-Some-clause-ok : goal.returns-in-Some-clause-ok
returns-in-Some-clause-ok c = λ text w.
    advance_whole text c.args.reading.now.ended c.args.reading.now.line c.args.reading.now.held.items (c.begins_line.ensures.fields c.if-begins_line.true)
    (sym c.as_slice.ensures.value ∙ c.begins_line.ensures.held c.if-begins_line.true) w c.args.rest.now c.in-Some.end
    c.in-Some.ensures c.whole_line.new.ended c.in_ok-whole_line.ensures.ok c.in_ok-whole_line.ensures.number

pub returns-in_err-whole_line-clause-fault : goal.returns-in_err-whole_line-clause-fault
returns-in_err-whole_line-clause-fault c =
    let p = err_from_is_err_and c.from_residual.result c.from_residual.ensures.1 in
    rw (p.1, p.2) (of_fault_weaker c.in_err-whole_line.field-0.0 (λ fault ends text w.
    advance_faulty text c.args.reading.now.ended c.args.reading.now.line c.args.reading.now.held.items (c.begins_line.ensures.fields c.if-begins_line.true)
    (sym c.as_slice.ensures.value ∙ c.begins_line.ensures.held c.if-begins_line.true) w c.args.rest.now c.in-Some.end c.in-Some.ensures fault ends)
    c.in_err-whole_line.ensures.fault)
