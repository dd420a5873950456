use Rattle.std.proofs.Common.{◌≡◌, ◌∙◌, ◌++◌, ◌∷◌, [], Bool, true, false, not, ap, sym, subst}
use Rattle.labels.specs.LabelledDocuments.{labelled_docs}
use Rattle.labels.specs.TopicLabelViews.{documents_of}
use Rattle.labels.proofs.Documents.{EachLabelled, docs_again, docs_first, labelled_after}
use Rattle.labels.proofs.topic_labels.TopicLabels.set.Goals as goal

turned : (t u : Bool) → u ≡ not t → t ≡ not u
turned true u e = ap not (sym e)
turned false u e = ap not (sym e)

pub invariant_of-self : goal.invariant_of-self
invariant_of-self c =
    let marked = documents_of c.self.inside.marked.entries in
    record {
      docs_are = c.push_reserved.ensures.items ∙ ap (λ docs. docs ++ c.args.doc ∷ []) c.self.invariant.docs_are
          ∙ sym (ap labelled_docs c.put_label.ensures.marked
          ∙ docs_first c.args.doc c.args.assessor c.args.grade marked (turned _ _ c.if-put_label.ensures.first));
      place = λ some. absurd (cc);
      labelled = subst EachLabelled (sym c.put_label.ensures.marked) (labelled_after c.args.doc c.args.assessor c.args.grade marked c.self.invariant.labelled);
      given = c.put_label.ensures.given;
      ruling = c.put_label.ensures.ruling;
      room_is = λ doc none. absurd (cc);
    }

pub invariant_of-self-else-put_label : goal.invariant_of-self-else-put_label
invariant_of-self-else-put_label c =
    let marked = documents_of c.self.inside.marked.entries in
    record {
      docs_are = c.self.invariant.docs_are
          ∙ sym (ap labelled_docs c.put_label.ensures.marked
          ∙ docs_again c.args.doc c.args.assessor c.args.grade marked (turned _ _ c.if-put_label.ensures.first));
      place = λ some. absurd (cc);
      labelled = subst EachLabelled (sym c.put_label.ensures.marked) (labelled_after c.args.doc c.args.assessor c.args.grade marked c.self.invariant.labelled);
      given = c.put_label.ensures.given;
      ruling = c.put_label.ensures.ruling;
      room_is = λ doc none. absurd (cc);
    }
