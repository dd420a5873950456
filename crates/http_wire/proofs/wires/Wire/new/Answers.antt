use Rattle.std.proofs.Common.{arith}
use Rattle.http_wire.proofs.HeadSearches.{searched_none}
use Rattle.http_wire.proofs.wires.Wire.new.Goals as goal

pub invariant_of-result : goal.invariant_of-result
invariant_of-result c = record { half = omega arith; searched = searched_none _ }
