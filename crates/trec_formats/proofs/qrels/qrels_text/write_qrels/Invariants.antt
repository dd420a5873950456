-- The text is that of the lines so far.
use Rattle.std.proofs.Common.{◌≡◌, take}
use Rattle.std.specs.List.{flat_map}
use Rattle.trec_formats.specs.QrelsFormat.QrelsText.{qrel_text}
use Rattle.trec_formats.proofs.qrels.qrels_text.write_qrels.Given as goal

abbrev pub invariant-loop-line : goal.invariant-loop-line
invariant-loop-line l = l.text.items ≡ flat_map qrel_text (take l.line-index l.lines)
