-- The items so far, in front of those that the bytes left give, are what all the bytes give.
use Rattle.std.proofs.Common.{◌≡◌, ◌-◌}
use Rattle.record_codec.specs.Readings.{items_read}
use Rattle.record_codec.proofs.ItemLoops.{with_front}
use Rattle.record_codec.proofs.entries.lists.items_of.Given as goal

abbrev pub invariant-loop : goal.invariant-loop
invariant-loop g l =
    with_front l.items.items (items_read g.I.Item.at (l.count - l.counter) l.left.bytes.now) ≡ items_read g.I.Item.at l.count l.fn.left.bytes.now
