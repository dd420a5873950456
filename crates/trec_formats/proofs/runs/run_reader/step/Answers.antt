use Rattle.std.proofs.lemmas.Result.{err_from_is_err_and}
use Rattle.trec_formats.proofs.RunTexts.KeptFields.{kept_few}
use Rattle.trec_formats.proofs.RunTexts.RunLines.{of_fault_weaker}
use Rattle.trec_formats.proofs.RunTexts.RunSteps.{step_part, step_white, step_line, step_faulty}
use Rattle.trec_formats.proofs.runs.run_reader.step.Goals as goal

pub returns-in_default-clause-within : goal.returns-in_default-clause-within
returns-in_default-clause-within c = record { ended = c.requires.within.ended; held = rw c.in_ok-hold.ensures (kept_few _) }

pub returns-in_default-clause-ok : goal.returns-in_default-clause-ok
returns-in_default-clause-ok c =
    λ text. step_part text c.args.reading.now.ended c.args.reading.now.line c.args.reading.now.held.items
    c.args.rest.now c.hold.new.held.items c.in_default.ensures c.in_ok-hold.ensures

pub returns-then-rest-end-ne10-clause-ok : goal.returns-then-rest-end-ne10-clause-ok
returns-then-rest-end-ne10-clause-ok c = λ text.
    step_white text c.args.reading.now.ended c.args.reading.now.line c.args.reading.now.held.items c.args.rest.now c.in-Some.end c.in-Some.ensures
    c.end_field.new.line c.end_field.new.held.items c.if-rest-end-ne10.true c.in_ok-end_field.ensures.line c.in_ok-end_field.ensures.held

pub returns-in_err-end_line-clause-fault : goal.returns-in_err-end_line-clause-fault
returns-in_err-end_line-clause-fault c =
    let p = err_from_is_err_and c.from_residual-in_err-end_line.result c.from_residual-in_err-end_line.ensures.1 in
    rw (p.1, p.2) (of_fault_weaker c.in_err-end_line.field-0.0 (λ fault ends text.
    step_faulty text c.args.reading.now.ended c.args.reading.now.line c.args.reading.now.held.items c.args.rest.now c.in-Some.end
    c.in-Some.ensures c.end_field.new.line fault c.if-rest-end-ne10.false c.in_ok-end_field.ensures.line ends) c.in_err-end_line.ensures.fault)

pub returns-clause-ok : goal.returns-clause-ok
returns-clause-ok c = λ text.
    step_line text c.args.reading.now.ended c.args.reading.now.line c.args.reading.now.held.items c.args.rest.now c.in-Some.end c.in-Some.ensures
    c.end_field.new.line c.clear.new.self c.end_field.new.held.items c.end_line.new.ended c.if-rest-end-ne10.false c.in_ok-end_field.ensures.line
    c.clear.ensures c.in_ok-end_field.ensures.held c.in_ok-end_line.ensures.ok c.in_ok-end_line.ensures.number
