use Rattle.std.proofs.Common.{subst}
use Rattle.decimal_rank.specs.Rankings.Places.{AreDistinct}
use Rattle.labels.specs.LabelledDocuments.{labelled_docs}
use Rattle.labels.specs.TopicLabelViews.{TopicLabelsView}
use Rattle.labels.proofs.Entries.{each_once}
use Rattle.labels.proofs.topic_labels.TopicLabels.count.Goals as goal

pub returns-clause-once : goal.returns-clause-once
returns-clause-once c =
    subst (λ (view : TopicLabelsView). AreDistinct (labelled_docs view.marked)) c.self.view_is (each_once c.self.inside.marked.entries c.len.ensures.unique)
