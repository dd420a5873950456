use Rattle.std.proofs.Common.{arith}
use Rattle.trec_formats.proofs.RunTexts.PackedTexts.{keeps_more, text_behind}
use Rattle.trec_formats.proofs.runs.packed_runs.append_text.Goals as goal

pub returns-clause-keeps : goal.returns-clause-keeps
returns-clause-keeps c = rw c.in_ok-extend_from_slice.ensures.items (keeps_more c.args.bytes.now.items c.args.text.now)

pub returns-clause-text : goal.returns-clause-text
returns-clause-text c =
    rw c.in_ok-extend_from_slice.ensures.items
    (text_behind c.args.bytes.now.items c.args.text.now _ (omega (arith, c.len-start.ensures, c.args.bytes.now.ok.0))
    (omega (arith, c.len.ensures, c.in_ok-extend_from_slice.ensures.len, c.args.bytes.now.ok.0)))
