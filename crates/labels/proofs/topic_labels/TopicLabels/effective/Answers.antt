use Rattle.std.proofs.Common.{◌∙◌, ap}
use Rattle.labels.specs.LabelledDocuments.{effective_at}
use Rattle.labels.specs.TopicLabelViews.{TopicLabelsView}
use Rattle.labels.proofs.Entries.{effective_found, effective_looked_up}
use Rattle.labels.proofs.topic_labels.TopicLabels.effective.Goals as goal

pub returns-in_err-get : goal.returns-in_err-get
returns-in_err-get c =
    c.from_residual.ensures ∙ ap (effective_found c.args.need) c.in_err-get.ensures.value
    ∙ effective_looked_up c.args.need c.args.doc c.self.inside.marked.entries
    ∙ ap (λ (view : TopicLabelsView). effective_at c.args.need view.marked c.args.doc) c.self.view_is

pub returns : goal.returns
returns c =
    c.effective.ensures ∙ ap (effective_found c.args.need) c.in_ok-get.ensures.value ∙ effective_looked_up c.args.need c.args.doc c.self.inside.marked.entries
    ∙ ap (λ (view : TopicLabelsView). effective_at c.args.need view.marked c.args.doc) c.self.view_is
