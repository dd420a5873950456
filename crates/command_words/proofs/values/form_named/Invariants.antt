-- No form passed has the name: the first among those left is the first among all.
use Rattle.std.proofs.Common.{◌≡◌, length, map}
use Rattle.command_words.specs.Words.{form_named, form_of}
use Rattle.command_words.proofs.values.form_named.Given as goal

abbrev pub invariant-loop-left : goal.invariant-loop-left
invariant-loop-left l = form_named l.name (map form_of l.forms) ≡ form_named l.name (map form_of l.left)

abbrev pub decreases-loop-left : goal.decreases-loop-left
decreases-loop-left l = length l.left
