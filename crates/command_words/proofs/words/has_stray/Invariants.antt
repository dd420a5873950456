-- No word passed is stray: the words left tell what all do.
use Rattle.std.proofs.Common.{◌≡◌, length, map, string_bytes}
use Rattle.std.specs.List.{list_any}
use Rattle.command_words.specs.Words.{is_stray}
use Rattle.command_words.proofs.words.has_stray.Given as goal

abbrev pub invariant-loop-left : goal.invariant-loop-left
invariant-loop-left l = list_any is_stray (map string_bytes l.words) ≡ list_any is_stray (map string_bytes l.left)

abbrev pub decreases-loop-left : goal.decreases-loop-left
decreases-loop-left l = length l.left
