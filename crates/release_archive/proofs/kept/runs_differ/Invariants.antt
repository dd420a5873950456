-- The run of no system passed stands behind it: the systems left tell whether all differ.
use Rattle.std.proofs.Common.{◌≡◌, length}
use Rattle.rulebook.specs.Spelling.{differ}
use Rattle.rulebook.specs.Reports.Systems.{runs_of}
use Rattle.release_archive.proofs.kept.runs_differ.Given as goal

abbrev pub invariant-loop-rest : goal.invariant-loop-rest
invariant-loop-rest l = differ (runs_of l.systems) ≡ differ (runs_of l.rest)

abbrev pub decreases-loop-rest : goal.decreases-loop-rest
decreases-loop-rest l = length l.rest
