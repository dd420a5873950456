use Rattle.labels.proofs.Documents.{docs_then, given_then, marked_then, ruling_then}
use Rattle.labels.proofs.laws.marks_follow_rulings.Goals as goal

pub returns : goal.returns
returns c = record { ruling = ruling_then; given = given_then; marked = marked_then; docs = docs_then }
