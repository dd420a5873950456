-- The run has the lines so far.
use Rattle.std.proofs.Common.{◌≡◌, take}
use Rattle.trec_formats.specs.RunFormat.PackedRuns.{kept_lines, ArePlaced}
use Rattle.trec_formats.proofs.runs.packed_runs.packed.Given as goal

abbrev pub invariant-loop-line : goal.invariant-loop-line
invariant-loop-line l = record {
  placed : ArePlaced l.run.bytes.items l.run.lines.items;
  lines : kept_lines l.run ≡ take l.line-index l.lines;
}
