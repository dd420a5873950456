use Rattle.std.proofs.Common.{arith, sym, ap, ◌≡◌, [], length}
use Rattle.std.proofs.lemmas.Bool.{eqb-true, eqb-false}
use Rattle.std.proofs.lemmas.List.{length-map, nil_from_length}
use Rattle.std.proofs.lemmas.Result.{err_from_is_err_and}
use Rattle.trec_formats.specs.RunFormat.PackedRuns.{kept_lines, line_in, lines_in}
use Rattle.trec_formats.proofs.RunTexts.LineNumbers.{run_ascends}
use Rattle.trec_formats.proofs.RunTexts.RunEnds.{whole_lines, whole_run, empty_run, faulty_run}
use Rattle.trec_formats.proofs.RunTexts.RunLines.{of_fault_weaker}
use Rattle.trec_formats.proofs.runs.run_reader.end_run.Goals as goal

pub returns-in_err-end_line-clause-fault : goal.returns-in_err-end_line-clause-fault
returns-in_err-end_line-clause-fault c =
    let p = err_from_is_err_and c.from_residual-in_err-end_line.result c.from_residual-in_err-end_line.ensures.1 in
    rw (p.1, p.2) (of_fault_weaker c.in_err-end_line.field-0.0 (λ fault ends text w.
    faulty_run text c.args.reading.ended c.args.reading.line c.args.reading.held.items c.end_field.new.line c.in_ok-end_field.ensures.line w fault ends)
    c.in_err-end_line.ensures.fault)

pub returns-then-is_empty-clause-fault : goal.returns-then-is_empty-clause-fault
returns-then-is_empty-clause-fault c =
    let none : kept_lines c.end_line.new.ended.run ≡ [] =
    ap (lines_in c.end_line.new.ended.run.bytes.items)
    (nil_from_length c.end_line.new.ended.run.lines.items (omega (arith, eqb-true _ _ (sym c.if-is_empty.ensures), c.end_line.new.ended.run.lines.ok.0))) in
    rw c.at.ensures
    (λ text w. empty_run text c.args.reading.ended c.args.reading.line c.args.reading.held.items c.end_field.new.line
    c.in_ok-end_field.ensures.line w c.end_line.new.ended c.in_ok-end_line.ensures.ok none)

pub returns-clause-lines : goal.returns-clause-lines
returns-clause-lines c = λ text w.
    whole_run text c.args.reading.ended c.args.reading.line c.args.reading.held.items c.end_field.new.line
    c.in_ok-end_field.ensures.line w c.end_line.new.ended c.in_ok-end_line.ensures.ok
    (λ nil. eqb-false _ _ (sym c.if-is_empty.ensures)
    (omega (
      arith,
      ap length nil,
      length-map c.end_line.new.ended.run.lines.items (line_in c.end_line.new.ended.run.bytes.items),
      c.end_line.new.ended.run.lines.ok.0,
    )))

pub returns-clause-ascending : goal.returns-clause-ascending
returns-clause-ascending c =
    let read = c.requires.read in
    run_ascends read.0 (kept_lines c.end_line.new.ended.run)
    (whole_run read.0 c.args.reading.ended c.args.reading.line c.args.reading.held.items c.end_field.new.line
    c.in_ok-end_field.ensures.line read.1 c.end_line.new.ended c.in_ok-end_line.ensures.ok
    (λ nil. eqb-false _ _ (sym c.if-is_empty.ensures)
    (omega (
      arith,
      ap length nil,
      length-map c.end_line.new.ended.run.lines.items (line_in c.end_line.new.ended.run.bytes.items),
      c.end_line.new.ended.run.lines.ok.0,
    ))))

pub returns-clause-short : goal.returns-clause-short
returns-clause-short c =
    let read = c.requires.read in
    (whole_lines read.0 c.args.reading.ended c.args.reading.line c.args.reading.held.items c.end_field.new.line
    c.in_ok-end_field.ensures.line read.1 c.end_line.new.ended c.in_ok-end_line.ensures.ok).short
