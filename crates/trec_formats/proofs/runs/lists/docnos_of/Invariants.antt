-- The docnos are those of the lines so far, in their order.
use Rattle.std.proofs.Common.{◌≡◌, map, take}
use Rattle.trec_formats.specs.RunFormat.PackedRuns.{text_in}
use Rattle.trec_formats.proofs.runs.lists.docnos_of.Given as goal

abbrev pub invariant-loop-line : goal.invariant-loop-line
invariant-loop-line l = l.docs ≡ map (λ line. text_in l.bytes line.now.doc) (take l.line-index l.order)
