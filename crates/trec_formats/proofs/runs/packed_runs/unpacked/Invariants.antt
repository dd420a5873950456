-- The lines so far have texts of their own.
use Rattle.std.proofs.Common.{◌≡◌, take}
use Rattle.trec_formats.specs.RunFormat.PackedRuns.{lines_in}
use Rattle.trec_formats.proofs.runs.packed_runs.unpacked.Given as goal

abbrev pub invariant-loop-line : goal.invariant-loop-line
invariant-loop-line l = l.whole.items ≡ lines_in l.bytes (take l.line-index l.lines)
