use Rattle.std.proofs.Common.{refl}
use Rattle.score_index.proofs.Cells.KeptCells.{no-sums}
use Rattle.score_index.proofs.sums.no_sums.Goals as goal

pub returns : goal.returns
returns c = λ cap places room few. no-sums cap places _ room few refl refl refl refl
