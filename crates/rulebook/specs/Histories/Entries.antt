-- What one more entry changes of the grades. H is a list of accepted entries, e the entry after it.
use Rattle.std.specs.Prelude.{◌≡◌, ℕ, ◌&&◌, true, false, [], ◌∷◌, ◌++◌, None, Some, IsTrue, if◌then◌else◌, is_some}
use Rattle.std.specs.Str.{bytes_eq}
use Rattle.decimal_rank.specs.Names.{with_name}
use Rattle.labels.specs.DocumentLabels.{with_label}
use Rattle.rulebook.specs.declared.ask.Command.TheVariants as command
use Rattle.rulebook.specs.declared.entry.Entry.{Entry}
use Rattle.rulebook.specs.Words.{Text, contains_text}
use Rattle.rulebook.specs.Campaign.{History, rules_of}
use Rattle.rulebook.specs.Histories.Legal.{IsLegal}
use Rattle.rulebook.specs.Judgements.Grades.{Label, effective, graded_documents, is_label_on, is_labelled, label_of, labelled_documents, labels_on, last_ruling, ruling_in, trail}

-- an entry that changes no label and no ruling
pub record IsQuiet (e : Entry) : Type 0 where
  pub no_label : label_of e ≡ None
  pub no_ruling : (topic doc : Text) → ruling_in topic doc e.core.command ≡ None

-- labels, rulings, effective grades, the documents with a label and the trail stay
pub record AreKept (H J : History) : Type 0 where
  pub labels_are : (topic doc : Text) → labels_on J topic doc ≡ labels_on H topic doc
  pub rulings_are : (topic doc : Text) → last_ruling J topic doc ≡ last_ruling H topic doc
  pub effective_is : (topic doc : Text) → effective J topic doc ≡ effective H topic doc
  pub labelled_are : (topic : Text) → labelled_documents J topic ≡ labelled_documents H topic
  pub trail_is : (topic : Text) → trail J topic ≡ trail H topic

-- an entry that gives a label and no ruling
pub record GivesLabel (e : Entry) (label : Label) : Type 0 where
  pub label_is : label_of e ≡ Some label
  pub no_ruling : (topic doc : Text) → ruling_in topic doc e.core.command ≡ None

-- the label joins those of its document, and the document those with a label, and the trail where it has an effective grade then
pub record AreWithLabel (H J : History) (label : Label) : Type 0 where
  pub labels_are : (topic doc : Text)
      → labels_on J topic doc ≡ (if is_label_on topic doc label then with_label label.assessor label.grade (labels_on H topic doc) else labels_on H topic doc)
  pub rulings_are : (topic doc : Text) → last_ruling J topic doc ≡ last_ruling H topic doc
  pub effective_is : (topic doc : Text) → is_label_on topic doc label ≡ false → effective J topic doc ≡ effective H topic doc
  pub labelled_are : labelled_documents J label.topic ≡ with_name (labelled_documents H label.topic) label.doc
  pub other_labelled : (topic : Text) → bytes_eq label.topic topic ≡ false → labelled_documents J topic ≡ labelled_documents H topic
  pub trail_is : trail J label.topic ≡ (if is_some (effective J label.topic label.doc) then with_name (trail H label.topic) label.doc else trail H label.topic)
  pub other_trails : (topic : Text) → bytes_eq label.topic topic ≡ false → trail J topic ≡ trail H topic

-- An entry that changes no grade.
abbrev pub QuietEntriesKeepGrades : Type 0
QuietEntriesKeepGrades = (H : History) (e : Entry) → rules_of (H ++ e ∷ []) ≡ rules_of H → IsQuiet e → AreKept H (H ++ e ∷ [])

-- An entry that gives a label.
abbrev pub LabelsJoin : Type 0
LabelsJoin = (H : History) (e : Entry) (label : Label) → rules_of (H ++ e ∷ []) ≡ rules_of H → GivesLabel e label → AreWithLabel H (H ++ e ∷ []) label

-- an entry that rules on a document of a topic, and gives no label
pub record GivesRuling (e : Entry) (topic doc : Text) (grade : ℕ) : Type 0 where
  pub no_label : label_of e ≡ None
  pub command_is : e.core.command ≡ command.Rule topic doc grade

-- the document has the ruling, and joins the trail where it has an effective grade then; the documents with a label stay
pub record AreWithRuling (H J : History) (topic doc : Text) (grade : ℕ) : Type 0 where
  pub labels_are : (t d : Text) → labels_on J t d ≡ labels_on H t d
  pub rulings_are : (t d : Text) → last_ruling J t d ≡ (if bytes_eq topic t && bytes_eq doc d then Some grade else last_ruling H t d)
  pub effective_is : (t d : Text) → (bytes_eq topic t && bytes_eq doc d) ≡ false → effective J t d ≡ effective H t d
  pub labelled_are : (t : Text) → labelled_documents J t ≡ labelled_documents H t
  pub trail_is : trail J topic ≡ (if is_some (effective J topic doc) then with_name (trail H topic) doc else trail H topic)
  pub other_trails : (t : Text) → bytes_eq topic t ≡ false → trail J t ≡ trail H t

-- An entry that rules on a document that has a label.
abbrev pub RulingsJoin : Type 0
RulingsJoin = (H : History) (e : Entry) (topic doc : Text) (grade : ℕ) → rules_of (H ++ e ∷ []) ≡ rules_of H → GivesRuling e topic doc grade
    → IsTrue (is_labelled H topic doc) → AreWithRuling H (H ++ e ∷ []) topic doc grade

-- the documents of a topic with an effective grade are those of the trail that have one
abbrev pub GradedAreOnTrail : Type 0
GradedAreOnTrail = (H : History) (topic doc : Text)
    → contains_text (graded_documents H topic) doc ≡ (contains_text (trail H topic) doc && is_some (effective H topic doc))

-- the documents of a topic with a label are those that are listed so
abbrev pub LabelledAreListed : Type 0
LabelledAreListed = (H : History) (topic doc : Text) → contains_text (labelled_documents H topic) doc ≡ is_labelled H topic doc

-- in a list of entries that can come about each document with an effective grade is on the trail
abbrev pub GradedAreThere : Type 0
GradedAreThere = (H : History) → IsLegal H → (topic doc : Text) → is_some (effective H topic doc) ≡ true → IsTrue (contains_text (trail H topic) doc)
