-- The lines that were skipped make no row.
use Rattle.std.proofs.Common.{length}
use Rattle.trec_formats.proofs.LineTexts.Cuts.{Skips}
use Rattle.trec_formats.proofs.lines.next_row.Given as goal

abbrev pub invariant-loop-rest : goal.invariant-loop-rest
invariant-loop-rest l = Skips l.before l.text l.number l.rest

abbrev pub decreases-loop-rest : goal.decreases-loop-rest
decreases-loop-rest l = length l.rest
