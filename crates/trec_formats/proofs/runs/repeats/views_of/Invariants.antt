-- The views show the lines so far.
use Rattle.std.proofs.Common.{◌≡◌, map, take}
use Rattle.trec_formats.specs.RunFormat.LineViews.{view_shown}
use Rattle.trec_formats.specs.RunFormat.PackedRuns.{lines_in}
use Rattle.trec_formats.proofs.runs.repeats.views_of.Given as goal

abbrev pub invariant-loop-line : goal.invariant-loop-line
invariant-loop-line l = map view_shown l.views.items ≡ lines_in l.bytes (take l.line-index l.lines)
