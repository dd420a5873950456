-- The entries so far, in front of those that the bytes left give, are what all the bytes give.
use Rattle.std.proofs.Common.{◌≡◌, ◌-◌}
use Rattle.record_codec.specs.BundleGrammar.{cores_read}
use Rattle.record_codec.proofs.ItemLoops.{with_front}
use Rattle.record_codec.proofs.bundles.bundle_reading.cores.Given as goal

abbrev pub invariant-loop : goal.invariant-loop
invariant-loop l =
    with_front l.cores.items (cores_read l.callers l.texts (l.count - l.counter) l.earlier l.left.bytes.now)
    ≡ cores_read l.callers l.texts l.count 0 l.fn.left.bytes.now
