-- The text of no caller passed stands behind it: the texts left tell whether all differ.
use Rattle.std.proofs.Common.{◌≡◌, length, map}
use Rattle.rulebook.specs.Spelling.{differ}
use Rattle.routes.specs.Keys.{caller_text}
use Rattle.routes.proofs.keys.texts_differ.Given as goal

abbrev pub invariant-loop-left : goal.invariant-loop-left
invariant-loop-left l = differ (map (caller_text l.which) l.callers) ≡ differ (map (caller_text l.which) l.left)

abbrev pub decreases-loop-left : goal.decreases-loop-left
decreases-loop-left l = length l.left
