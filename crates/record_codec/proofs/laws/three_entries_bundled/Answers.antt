-- By computing it.
use Rattle.std.proofs.Common.{refl}
use Rattle.record_codec.proofs.laws.three_entries_bundled.Goals as goal

pub returns : goal.returns
returns c = refl
