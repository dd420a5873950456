-- The list so far and the disagreements of the entries to come make all of them.
use Rattle.std.proofs.Common.{◌≡◌, ◌++◌}
use Rattle.labels.specs.LabelledDocuments.{disagreeing}
use Rattle.labels.specs.TopicLabelViews.{documents_of}
use Rattle.labels.proofs.topic_labels.disagreements_of.Given as goal

abbrev pub invariant-loop-doc : goal.invariant-loop-doc
invariant-loop-doc l = l.docs.items ++ disagreeing l.need (documents_of l.doc-iterator) ≡ disagreeing l.need (documents_of l.marked.entries)
