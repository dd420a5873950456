use Rattle.std.proofs.Common.{◌∙◌, ap, sym, subst}
use Rattle.indexmap.specs.IndexMap.{spare}
use Rattle.labels.specs.LabelledDocuments.{labelled_docs}
use Rattle.labels.specs.TopicLabelViews.{LabelHasRoom, documents_of, room_at}
use Rattle.labels.proofs.Documents.{EachLabelled, docs_ruled, labelled_then}
use Rattle.labels.proofs.topic_labels.TopicLabels.rule.Goals as goal

pub invariant_of-self : goal.invariant_of-self
invariant_of-self c = record {
  docs_are = c.self.invariant.docs_are
      ∙ sym (ap labelled_docs c.put_ruling.ensures.marked ∙ docs_ruled c.args.doc c.args.grade (documents_of c.self.inside.marked.entries));
  place = c.self.invariant.place;
  labelled = subst EachLabelled (sym c.put_ruling.ensures.marked)
      (labelled_then c.args.doc c.args.grade (documents_of c.self.inside.marked.entries) c.self.invariant.labelled);
  given = c.self.invariant.given;
  ruling = c.self.invariant.ruling;
  room_is = λ doc is.
      let room = c.self.invariant.room_is doc is in
      let slots = subst (λ slots. LabelHasRoom (room_at c.self.inside.marked.entries doc) slots c.self.inside.fresh.spare)
      (sym c.put_ruling.ensures.spare) room in
      subst (λ room. LabelHasRoom room (spare c.put_ruling.new.marked) c.self.inside.fresh.spare) (sym (c.put_ruling.ensures.rooms doc)) slots;
}
