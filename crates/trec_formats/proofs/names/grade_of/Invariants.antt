-- The bytes so far are digits, and their value is at most 255.
use Rattle.trec_formats.proofs.LineTexts.Grades.{AreRead}
use Rattle.trec_formats.proofs.names.grade_of.Given as goal

abbrev pub invariant-loop-byte : goal.invariant-loop-byte
invariant-loop-byte l = AreRead l.text l.byte-index l.value
