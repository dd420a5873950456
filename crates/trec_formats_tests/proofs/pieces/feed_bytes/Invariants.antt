-- The reader was fed one byte for each byte so far.
use Rattle.std.proofs.Common.{◌≡◌, ◌+◌}
use Rattle.trec_formats_tests.proofs.pieces.feed_bytes.Given as goal

abbrev pub invariant-loop-byte : goal.invariant-loop-byte
invariant-loop-byte l = l.reader.fed ≡ l.initial.reader.fed + l.byte-index
