-- The rows so far are read as these lines, which with the bytes left are no more than all bytes.
use Rattle.std.proofs.Common.{◌+◌, ◌≤◌, length, map}
use Rattle.trec_formats.specs.Faults.{Stand}
use Rattle.trec_formats.specs.RunFormat.LineViews.{qrel_shown}
use Rattle.trec_formats.specs.QrelsFormat.Qrels.{qrel_of}
use Rattle.trec_formats.proofs.LineTexts.Progress.{IsReadTo}
use Rattle.trec_formats.proofs.qrels.read_lines.Given as goal

abbrev pub invariant-loop-row : goal.invariant-loop-row
invariant-loop-row l = record {
  read : IsReadTo (Stand qrel_of) l.bytes l.number l.rest (map qrel_shown l.lines.items);
  few : length l.lines.items + length l.rest ≤ length l.bytes;
}

abbrev pub decreases-loop-row : goal.decreases-loop-row
decreases-loop-row l = length l.rest
