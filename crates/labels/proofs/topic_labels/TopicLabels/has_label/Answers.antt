use Rattle.std.proofs.Common.{◌∙◌, ap, is_some}
use Rattle.labels.specs.LabelledDocuments.{given_at}
use Rattle.labels.proofs.Entries.{has_one}
use Rattle.labels.proofs.topic_labels.TopicLabels.has_label.Goals as goal

pub returns : goal.returns
returns c = c.is_some.ensures ∙ ap is_some c.grade_of.ensures ∙ has_one c.args.assessor.now (given_at c.args.self.now.marked c.args.doc)
