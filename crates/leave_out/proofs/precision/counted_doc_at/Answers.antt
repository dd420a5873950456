use Rattle.std.proofs.Common.{arith}
use Rattle.leave_out.proofs.precision.counted_doc_at.Goals as goal

pub overflow_add-place : goal.overflow_add-place
overflow_add-place g c = omega (arith, c.len-len.ensures.few, c.requires.within)
