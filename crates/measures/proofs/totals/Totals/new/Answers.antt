use Rattle.std.proofs.Common.{refl}
use Rattle.measures.specs.Totals.{sums_of}
use Rattle.measures.proofs.totals.Totals.new.Goals as goal

pub returns-clause-sums : goal.returns-clause-sums
unfolding sums_of
returns-clause-sums c = refl
