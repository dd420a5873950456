use Rattle.std.proofs.Common.{refl, sym, ◌∙◌, ◌+◌, ap, Ok, Result}
use Rattle.std.proofs.lemmas.Result.{on_ok_weaker}
use Rattle.trec_formats.specs.declared.faults.Kind.{Kind}
use Rattle.trec_formats.specs.declared.runs.RunLine.{RunLine}
use Rattle.trec_formats.specs.RunFormat.LineViews.{view_shown}
use Rattle.trec_formats.specs.Lines.{fields_of}
use Rattle.trec_formats.proofs.RunTexts.RunLines.{if_fault_weaker}
use Rattle.trec_formats.proofs.RunTexts.WholeLines.{whole_blank, whole_good, whole_full, whole_bad}
use Rattle.trec_formats.proofs.runs.run_reader.whole_line.Goals as goal

pub returns-then-not-has_field-clause-ok : goal.returns-then-not-has_field-clause-ok
returns-then-not-has_field-clause-ok c =
    whole_blank c.args.ended.now (record { number = c.args.ended.now.number + 1; run = c.args.ended.now.run; counts = c.args.ended.now.counts })
    (fields_of c.args.line.now) refl refl (sym c.has_field.ensures ∙ c.if-not-has_field.true)

pub returns-in-Ok-clause-ok : goal.returns-in-Ok-clause-ok
returns-in-Ok-clause-ok c =
    on_ok_weaker c.add_line.result
    (whole_good c.args.ended.now (record { number = c.args.ended.now.number + 1; run = c.args.ended.now.run; counts = c.args.ended.now.counts })
    (fields_of c.args.line.now) refl refl refl (sym c.has_field.ensures ∙ c.if-not-has_field.false) (view_shown c.lent.result)
    (c.in-Ok.ensures ∙ ap (λ l. let r : Result RunLine Kind = Ok l in r) (sym c.lent.ensures)) c.add_line.new.ended) c.add_line.ensures.ok

pub returns-in-Ok-clause-fault : goal.returns-in-Ok-clause-fault
returns-in-Ok-clause-fault c =
    if_fault_weaker c.add_line.result
    (whole_full c.args.ended.now (record { number = c.args.ended.now.number + 1; run = c.args.ended.now.run; counts = c.args.ended.now.counts })
    (fields_of c.args.line.now) refl refl refl (sym c.has_field.ensures ∙ c.if-not-has_field.false) (view_shown c.lent.result)
    (c.in-Ok.ensures ∙ ap (λ l. let r : Result RunLine Kind = Ok l in r) (sym c.lent.ensures))) c.add_line.ensures.fault

pub returns-in-Err-clause-fault : goal.returns-in-Err-clause-fault
returns-in-Err-clause-fault c =
    rw c.at.ensures (whole_bad c.args.ended.now (fields_of c.args.line.now) c.in-Err.kind (sym c.has_field.ensures ∙ c.if-not-has_field.false) c.in-Err.ensures)
