-- The lines so far are tallied.
use Rattle.std.proofs.Common.{map, take}
use Rattle.trec_formats.specs.RunFormat.LineViews.{qrel_shown}
use Rattle.eval.proofs.Tallies.{AreTallied}
use Rattle.eval.proofs.judgements.judgements_of.Given as goal

abbrev pub invariant-loop-line : goal.invariant-loop-line
invariant-loop-line l = AreTallied (take l.line-index (map qrel_shown l.qrels)) l.topics l.tallies.items
