-- The texts of the entries so far.
use Rattle.std.proofs.Common.{◌≡◌, take}
use Rattle.record_codec.specs.Bundles.{texts_of}
use Rattle.record_codec.proofs.bundles.bundle_tables.texts_in.Given as goal

abbrev pub invariant-loop-core : goal.invariant-loop-core
invariant-loop-core l = l.texts ≡ texts_of (take l.core-index l.cores)
