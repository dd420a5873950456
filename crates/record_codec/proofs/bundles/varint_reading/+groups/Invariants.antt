-- Fewer groups are left.
use Rattle.record_codec.proofs.bundles.varint_reading.+groups.Given as goal

abbrev pub decreases-groups : goal.decreases-groups
decreases-groups l = l.most
