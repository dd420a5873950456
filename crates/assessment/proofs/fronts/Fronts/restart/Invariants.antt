use Rattle.std.proofs.Common.{◌≡◌, ◌++◌, drop, map, take}
use Rattle.assessment.specs.Fronts.{front_restarted}
use Rattle.assessment.proofs.fronts.Fronts.restart.Given as goal

-- the first are restarted, the others are as they were
abbrev pub invariant-loop-own : goal.invariant-loop-own
invariant-loop-own l = l.own-items ≡ map (front_restarted l.run) (take l.own-index l.initial.own-items) ++ drop l.own-index l.initial.own-items
