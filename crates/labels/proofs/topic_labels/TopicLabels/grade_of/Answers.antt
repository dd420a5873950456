use Rattle.std.proofs.Common.{◌∙◌, ap}
use Rattle.labels.specs.DocumentLabels.{label_grade}
use Rattle.labels.specs.LabelledDocuments.{given_at}
use Rattle.labels.specs.TopicLabelViews.{TopicLabelsView}
use Rattle.labels.proofs.Entries.{given_found, given_looked_up}
use Rattle.labels.proofs.topic_labels.TopicLabels.grade_of.Goals as goal

pub returns-in_err-get : goal.returns-in_err-get
returns-in_err-get c =
    c.from_residual.ensures ∙ ap (λ found. label_grade c.args.assessor.now (given_found found)) c.in_err-get.ensures.value
    ∙ ap (label_grade c.args.assessor.now) (given_looked_up c.args.doc c.self.inside.marked.entries)
    ∙ ap (λ (view : TopicLabelsView). label_grade c.args.assessor.now (given_at view.marked c.args.doc)) c.self.view_is

pub returns : goal.returns
returns c =
    c.grade_of.ensures ∙ ap (λ found. label_grade c.args.assessor.now (given_found found)) c.in_ok-get.ensures.value
    ∙ ap (label_grade c.args.assessor.now) (given_looked_up c.args.doc c.self.inside.marked.entries)
    ∙ ap (λ (view : TopicLabelsView). label_grade c.args.assessor.now (given_at view.marked c.args.doc)) c.self.view_is
