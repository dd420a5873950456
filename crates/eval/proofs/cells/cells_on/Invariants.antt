-- The cells so far are those of the judged topics so far, and sound.
use Rattle.std.proofs.Common.{◌≡◌, map, take}
use Rattle.std.specs.Prelude.{All}
use Rattle.measures.specs.Cells.{IsSound}
use Rattle.eval.specs.Evaluations.{evaluated_cell}
use Rattle.eval.proofs.cells.cells_on.Given as goal

abbrev pub invariant-loop-number : goal.invariant-loop-number
invariant-loop-number l = record {
  cells : l.cells.items ≡ map (evaluated_cell l.lists l.qrels) (take l.number l.judgements.topics);
  sound : All IsSound l.cells.items;
}
