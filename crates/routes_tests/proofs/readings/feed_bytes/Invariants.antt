-- The reader was fed one byte for each so far.
use Rattle.std.proofs.Common.{◌≡◌, ◌+◌}
use Rattle.routes_tests.proofs.readings.feed_bytes.Given as goal

abbrev pub invariant-loop-byte : goal.invariant-loop-byte
invariant-loop-byte l = l.reader.fed ≡ l.initial.reader.fed + l.byte-index
