-- The list has at most 1,000 documents, each once.
use Rattle.std.proofs.Common.{◌≤◌, length}
use Rattle.decimal_rank.specs.Rankings.Places.{AreDistinct}
use Rattle.judging_tests.proofs.boards.scored_board.ranking_of.Given as goal

abbrev pub invariant-loop-doc : goal.invariant-loop-doc
invariant-loop-doc l = record {
  few : length l.listed.items ≤ 1000;
  distinct : AreDistinct l.listed.items;
}
