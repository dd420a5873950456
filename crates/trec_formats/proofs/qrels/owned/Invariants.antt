-- The lines are those that the views so far show.
use Rattle.std.proofs.Common.{◌≡◌, map, take}
use Rattle.trec_formats.specs.RunFormat.LineViews.{qrel_shown}
use Rattle.trec_formats.proofs.qrels.owned.Given as goal

abbrev pub invariant-loop-view : goal.invariant-loop-view
invariant-loop-view l = l.lines.items ≡ map qrel_shown (take l.view-index l.views)
