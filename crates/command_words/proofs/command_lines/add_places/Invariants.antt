-- Behind the arguments that were there stand those of the names so far.
use Rattle.std.proofs.Common.{◌≡◌, ◌++◌, map, take}
use Rattle.clap.specs.Words.{rule_of}
use Rattle.command_words.specs.CommandLines.{place_rule}
use Rattle.command_words.proofs.command_lines.add_places.Given as goal

abbrev pub invariant-loop-name : goal.invariant-loop-name
invariant-loop-name l = map rule_of l.arguments.items ≡ map rule_of l.initial.arguments.items ++ map (λ name. place_rule name.now) (take l.name-index l.names)
