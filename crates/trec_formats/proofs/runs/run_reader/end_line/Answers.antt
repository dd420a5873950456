use Rattle.std.proofs.Common.{refl, sym, ◌+◌}
use Rattle.std.proofs.lemmas.Result.{on_ok_weaker}
use Rattle.trec_formats.specs.RunFormat.LineViews.{view_shown}
use Rattle.trec_formats.proofs.RunTexts.RunLines.{if_fault_weaker, blank_line, good_line, full, bad_line}
use Rattle.trec_formats.proofs.runs.run_reader.end_line.Goals as goal

pub returns-then-line-eq0-clause-ok : goal.returns-then-line-eq0-clause-ok
returns-then-line-eq0-clause-ok c =
    blank_line c.args.ended.now (record { number = c.args.ended.now.number + 1; run = c.args.ended.now.run; counts = c.args.ended.now.counts })
    c.args.line.now c.if-line-eq0.true refl refl

pub returns-in-Ok-clause-ok : goal.returns-in-Ok-clause-ok
returns-in-Ok-clause-ok c =
    on_ok_weaker c.add_line.result
    (good_line c.args.ended.now (record { number = c.args.ended.now.number + 1; run = c.args.ended.now.run; counts = c.args.ended.now.counts })
    c.args.line.now c.if-line-eq0.false refl refl refl c.add_line.new.ended (view_shown c.in-Ok.line) (sym c.in-Ok.ensures)) c.add_line.ensures.ok

pub returns-in-Ok-clause-fault : goal.returns-in-Ok-clause-fault
returns-in-Ok-clause-fault c =
    if_fault_weaker c.add_line.result
    (λ fault. full c.args.ended.now (record { number = c.args.ended.now.number + 1; run = c.args.ended.now.run; counts = c.args.ended.now.counts })
    c.args.line.now c.if-line-eq0.false refl refl refl fault (view_shown c.in-Ok.line) (sym c.in-Ok.ensures)) c.add_line.ensures.fault

pub returns-in-Err-clause-fault : goal.returns-in-Err-clause-fault
returns-in-Err-clause-fault c =
    rw c.at.ensures (bad_line c.args.ended.now c.args.ended.now c.args.line.now c.if-line-eq0.false c.in-Err.kind (sym c.in-Err.ensures))
