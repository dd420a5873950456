-- What was read of the piece goes on from what was read before, and the reading keeps its limits.
use Rattle.std.proofs.Common.{length, take, ◌-◌, ◌≤◌, ◌+◌, ◌++◌, ℕ, List}
use Rattle.trec_formats.specs.RunFormat.RunStates.{IsRunRead, IsWithin}
use Rattle.trec_formats.proofs.runs.run_reader.read_piece.Given as goal

abbrev pub invariant-loop-at : goal.invariant-loop-at
invariant-loop-at l =
    (l.at ≤ length l.piece) × (l.reading.ended.number ≤ l.initial.reading.ended.number + l.at) × IsWithin l.reading
    × ((text : List ℕ) → IsRunRead text l.initial.reading → IsRunRead (text ++ take l.at l.piece) l.reading)

abbrev pub decreases-loop-at : goal.decreases-loop-at
decreases-loop-at l = length l.piece - l.at
