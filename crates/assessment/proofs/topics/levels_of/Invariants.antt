-- The levels so far are those of the topics so far.
use Rattle.std.proofs.Common.{◌≡◌, map, take}
use Rattle.assessment.proofs.topics.levels_of.Given as goal

abbrev pub invariant-loop-one : goal.invariant-loop-one
invariant-loop-one l = l.levels.items ≡ map (λ one. one.level) (take l.one-index l.rules)
