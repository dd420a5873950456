use Rattle.std.proofs.Common.{drop}
use Rattle.mtf_queue.specs.Groups.{KeepsFrom}
use Rattle.mtf_queue.proofs.groups.holder_from.Given as goal

-- the holders so far are lower
abbrev pub invariant-loop-index : goal.invariant-loop-index
invariant-loop-index l = KeepsFrom l.run (drop l.from l.holders) (drop l.index l.holders)
