-- None of the documents so far is the one sought.
use Rattle.std.proofs.Common.{◌≢◌, take}
use Rattle.std.specs.Prelude.{All}
use Rattle.judging_tests.proofs.boards.scored_board.is_listed.Given as goal

abbrev pub invariant-loop-other : goal.invariant-loop-other
invariant-loop-other l = All (λ other. other ≢ l.doc) (take l.other-index l.docs)
