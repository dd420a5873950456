-- The document stands between the two bounds if anywhere, and the steps left do for what is between them.
use Rattle.std.proofs.Common.{◌-◌}
use Rattle.decimal_rank.proofs.Standings.Search.{IsNarrowed}
use Rattle.decimal_rank.proofs.rankings.place_among.Given as goal

abbrev pub invariant-loop-low : goal.invariant-loop-low
invariant-loop-low g l = IsNarrowed l.entries l.doc l.low l.high l.initial.steps l.steps

abbrev pub decreases-loop-low : goal.decreases-loop-low
decreases-loop-low g l = l.high - l.low
