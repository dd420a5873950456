-- The callers of the entries so far, spelled.
use Rattle.std.proofs.Common.{◌≡◌, map, take}
use Rattle.record_codec.specs.Bundles.{caller_bytes}
use Rattle.record_codec.specs.Tables.{callers_of}
use Rattle.record_codec.proofs.bundles.bundle_tables.callers_in.Given as goal

abbrev pub invariant-loop-core : goal.invariant-loop-core
invariant-loop-core l = l.callers ≡ map caller_bytes (callers_of (take l.core-index l.cores))
