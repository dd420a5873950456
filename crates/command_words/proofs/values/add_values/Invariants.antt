-- The values of all names are those so far and those of the names left, if each has one.
use Rattle.std.proofs.Common.{◌≡◌, ◌++◌, length, map, option_map}
use Rattle.clap.specs.Words.{found_of, rows_of}
use Rattle.command_words.specs.CommandLines.{values_at}
use Rattle.command_words.proofs.values.add_values.Given as goal

abbrev pub invariant-loop-left : goal.invariant-loop-left
invariant-loop-left l =
    option_map (λ more. map (λ value. value.now) l.initial.values.items ++ more) (values_at (rows_of (found_of l.found)) (map (λ name. name.now) l.names))
    ≡ option_map (λ more. map (λ value. value.now) l.values.items ++ more) (values_at (rows_of (found_of l.found)) (map (λ name. name.now) l.left))

abbrev pub decreases-loop-left : goal.decreases-loop-left
decreases-loop-left l = length l.left
