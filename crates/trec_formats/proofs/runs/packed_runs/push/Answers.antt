use Rattle.std.proofs.Common.{refl}
use Rattle.trec_formats.specs.declared.runs.packed_runs.PackedLine.{PackedLine}
use Rattle.trec_formats.specs.RunFormat.LineViews.{view_shown}
use Rattle.trec_formats.proofs.RunTexts.PackedTexts.{push_placed, push_lines}
use Rattle.trec_formats.proofs.runs.packed_runs.push.Goals as goal

pub returns-clause-placed : goal.returns-clause-placed
returns-clause-placed c =
    let packed : PackedLine = record { line = c.args.line.line; topic = c.in_ok-topic.topic; doc = c.in_ok-doc.doc; score = c.copy.result } in
    rw c.in_ok-push.ensures.items
    (push_placed c.args.run.now.bytes.items c.topic_span.new.bytes.items c.append_text.new.bytes.items c.args.run.now.lines.items
    (view_shown c.args.line) packed
    c.in_ok-topic.ensures.keeps c.in_ok-doc.ensures.keeps c.in_ok-topic.ensures.text c.in_ok-doc.ensures.text c.requires)

pub returns-clause-lines : goal.returns-clause-lines
returns-clause-lines c =
    let packed : PackedLine = record { line = c.args.line.line; topic = c.in_ok-topic.topic; doc = c.in_ok-doc.doc; score = c.copy.result } in
    rw c.in_ok-push.ensures.items
    (push_lines c.args.run.now.bytes.items c.topic_span.new.bytes.items c.append_text.new.bytes.items c.args.run.now.lines.items (view_shown c.args.line) packed
    c.in_ok-topic.ensures.keeps c.in_ok-doc.ensures.keeps c.in_ok-topic.ensures.text c.in_ok-doc.ensures.text c.requires refl c.copy.ensures)
