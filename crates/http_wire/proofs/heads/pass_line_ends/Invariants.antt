-- The bytes passed are CR and LF, as many as are counted.
use Rattle.std.proofs.Common.{◌≡◌, ◌+◌, length, drop}
use Rattle.http_wire.specs.Heads.{behind_line_ends}
use Rattle.http_wire.proofs.heads.pass_line_ends.Given as goal

abbrev pub invariant-loop-left : goal.invariant-loop-left
invariant-loop-left l = record {
  behind : behind_line_ends l.bytes ≡ behind_line_ends l.left;
  place : l.left ≡ drop l.count l.bytes;
  counted : l.count + length l.left ≡ length l.bytes;
}

abbrev pub decreases-loop-left : goal.decreases-loop-left
decreases-loop-left l = length l.left
