-- The part begins nowhere in what was passed: what is behind it is the same for the text left.
use Rattle.std.proofs.Common.{◌≡◌, length}
use Rattle.drill.specs.Answers.{behind_part}
use Rattle.drill.proofs.answers.behind.Given as goal

abbrev pub invariant-loop-left : goal.invariant-loop-left
invariant-loop-left l = behind_part l.part l.text ≡ behind_part l.part l.left

abbrev pub decreases-loop-left : goal.decreases-loop-left
decreases-loop-left l = length l.left
