-- No field passed says `close`: those left tell what all do.
use Rattle.std.proofs.Common.{◌≡◌, length}
use Rattle.http_wire.specs.Heads.{says_close}
use Rattle.http_wire.proofs.fields.says_close.Given as goal

abbrev pub invariant-loop-left : goal.invariant-loop-left
invariant-loop-left l = says_close l.fields ≡ says_close l.left

abbrev pub decreases-loop-left : goal.decreases-loop-left
decreases-loop-left l = length l.left
