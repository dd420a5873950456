-- The totals are the sums of the cells so far, and count them.
use Rattle.std.proofs.Common.{◌≡◌, take}
use Rattle.measures.specs.Totals.{sums_of}
use Rattle.measures.proofs.totals.mean.Given as goal

abbrev pub invariant-loop-cell : goal.invariant-loop-cell
invariant-loop-cell l = record {
  sums : l.totals ≡ sums_of (take l.cell-index l.cells);
  topics : l.totals.topics ≡ l.cell-index;
}
