-- No head ends in the bytes passed: its length is the one found in those left, and their count.
use Rattle.std.proofs.Common.{◌≡◌, ◌+◌, length}
use Rattle.std.specs.Option.{option_map}
use Rattle.http_wire.specs.Heads.{head_length}
use Rattle.http_wire.proofs.heads.find_head.Given as goal

abbrev pub invariant-loop-left : goal.invariant-loop-left
invariant-loop-left l = record {
  found : head_length l.bytes ≡ option_map (λ n. n + l.count) (head_length l.left);
  counted : l.count + length l.left ≡ length l.bytes;
}

abbrev pub decreases-loop-left : goal.decreases-loop-left
decreases-loop-left l = length l.left
