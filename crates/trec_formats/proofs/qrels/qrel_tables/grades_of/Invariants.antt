-- The grades are those of the documents so far, in their order.
use Rattle.std.proofs.Common.{◌≡◌, map, take}
use Rattle.trec_formats.specs.RunFormat.LineViews.{qrel_shown}
use Rattle.trec_formats.specs.QrelsFormat.Qrels.{grade_on}
use Rattle.trec_formats.proofs.qrels.qrel_tables.grades_of.Given as goal

abbrev pub invariant-loop-place : goal.invariant-loop-place
invariant-loop-place l = l.grades.items ≡ map (grade_on (map qrel_shown l.lines) l.topic) (take l.place l.docs)
