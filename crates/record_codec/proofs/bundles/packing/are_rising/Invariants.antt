-- Whether all moments rise is left to those that weren't looked at.
use Rattle.std.proofs.Common.{◌≡◌, drop}
use Rattle.record_codec.specs.Bundles.{are_rising}
use Rattle.record_codec.proofs.bundles.packing.are_rising.Given as goal

abbrev pub invariant-loop-core : goal.invariant-loop-core
invariant-loop-core l = are_rising l.earlier (drop l.core-index l.cores) ≡ are_rising 0 l.cores
