use Rattle.labels.proofs.Documents.{docs_after, given_after, marked_after, ruling_after}
use Rattle.labels.proofs.laws.marks_follow_labels.Goals as goal

pub returns : goal.returns
returns c = record { given = given_after; ruling = ruling_after; marked = marked_after; docs = docs_after }
