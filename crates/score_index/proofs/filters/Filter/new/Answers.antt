use Rattle.std.proofs.Common.{◌*◌, arith}
use Rattle.score_index.proofs.Admissions.{bits-long}
use Rattle.score_index.proofs.filters.Filter.new.Goals as goal

pub invariant_of-result : goal.invariant_of-result
invariant_of-result c = (omega arith, bits-long (32 * c.args.docs) c.in_ok-bits.bits c.in_ok-bits.ensures)
