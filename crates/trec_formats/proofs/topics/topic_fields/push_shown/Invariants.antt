-- The bytes so far stand, as they are shown, behind what stood before.
use Rattle.std.proofs.Common.{◌≡◌, ◌++◌, map, take}
use Rattle.trec_formats.specs.TopicsFormat.TopicLines.{shown_byte}
use Rattle.trec_formats.proofs.topics.topic_fields.push_shown.Given as goal

abbrev pub invariant-loop-byte : goal.invariant-loop-byte
invariant-loop-byte l = l.bytes.items ≡ l.initial.bytes.items ++ map shown_byte (take l.byte-index l.text)
