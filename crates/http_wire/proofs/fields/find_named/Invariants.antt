-- No field passed has the name: the values in those left are all of them.
use Rattle.std.proofs.Common.{◌≡◌, length}
use Rattle.http_wire.specs.Heads.{values_named}
use Rattle.http_wire.proofs.fields.find_named.Given as goal

abbrev pub invariant-loop-left : goal.invariant-loop-left
invariant-loop-left l = values_named l.name l.fields ≡ values_named l.name l.left

abbrev pub decreases-loop-left : goal.decreases-loop-left
decreases-loop-left l = length l.left
