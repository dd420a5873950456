use Rattle.std.proofs.Common.{◌∙◌, ap}
use Rattle.std.proofs.lemmas.Result.{IfOk-weaker}
use Rattle.labels.specs.LabelledDocuments.{disagrees_at, is_listed}
use Rattle.labels.specs.TopicLabelViews.{TopicLabelsView}
use Rattle.labels.proofs.DisagreeingDocs.{listed_each}
use Rattle.labels.proofs.topic_labels.TopicLabels.disagreements.Goals as goal

pub returns-clause-each : goal.returns-clause-each
returns-clause-each c =
    let need = c.args.need in
    let entries = c.self.inside.marked.entries in
    IfOk-weaker c.disagreements_of.result _ _
    (λ docs is doc.
    ap (λ list. is_listed list doc) is ∙ listed_each need entries c.len.ensures.unique doc
    ∙ ap (λ (view : TopicLabelsView). disagrees_at need view.marked doc) c.self.view_is) c.disagreements_of.ensures
