use Rattle.std.proofs.Common.{◌≡◌, [], IfSome, MatchOption, subst}
use Rattle.labels.specs.LabelledDocuments.{given_at, ruling_at}
use Rattle.labels.specs.TopicLabelViews.{TopicLabelsView}
use Rattle.labels.proofs.Entries.{given_lent, ruling_lent, some_lent}
use Rattle.labels.proofs.topic_labels.TopicLabels.labels.Goals as goal

pub returns-clause-given : goal.returns-clause-given
returns-clause-given c =
    subst (λ (view : TopicLabelsView). MatchOption c.get.result (given_at view.marked c.args.doc ≡ [])
    (λ labels. labels.now.given ≡ given_at view.marked c.args.doc)) c.self.view_is
    (given_lent c.args.doc c.self.inside.marked.entries c.get.result c.get.ensures.value)

pub returns-clause-some : goal.returns-clause-some
returns-clause-some c = some_lent c.args.doc c.self.inside.marked.entries c.get.result c.get.ensures.value (c.self.invariant.labelled c.args.doc)

pub returns-clause-ruling : goal.returns-clause-ruling
returns-clause-ruling c =
    subst (λ (view : TopicLabelsView). IfSome c.get.result (λ labels. labels.now.ruling ≡ ruling_at view.marked c.args.doc)) c.self.view_is
    (ruling_lent c.args.doc c.self.inside.marked.entries c.get.result c.get.ensures.value)
