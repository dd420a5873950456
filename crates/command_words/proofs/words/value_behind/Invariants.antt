-- No byte passed is `=`: the value behind it in what is left is that of the whole option.
use Rattle.std.proofs.Common.{◌≡◌, length}
use Rattle.command_words.specs.Words.{value_behind}
use Rattle.command_words.proofs.words.value_behind.Given as goal

abbrev pub invariant-loop-left : goal.invariant-loop-left
invariant-loop-left l = value_behind l.option ≡ value_behind l.left

abbrev pub decreases-loop-left : goal.decreases-loop-left
decreases-loop-left l = length l.left
