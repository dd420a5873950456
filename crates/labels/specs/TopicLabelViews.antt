-- What contracts see of `TopicLabels`, and what it keeps.
use Rattle.std.specs.Prelude.{◌≡◌, ℕ, ◌≤◌, ◌==◌, nat_lt, List, [], Option, Some, None, IsTrue, is_some, length, map}
use Rattle.std.specs.Map.{lookup}
use Rattle.std.specs.Option.{ForSome}
use Rattle.decimal_rank.specs.declared.naming.DocId.{DocId}
use Rattle.labels.specs.DocumentLabels.{Labelled}
use Rattle.labels.specs.LabelledDocuments.{LabelledDocument, given_at, is_labelled_document, labelled_docs}

-- the documents that have a label, in the order of their first labels, and the one for which there is room for one more label
pub record TopicLabelsView : Type 0 where
  pub marked : List LabelledDocument
  pub room : Option DocId

-- the documents with their labels, from pairs of a document's number and its labels
abbrev pub documents_of : List (ℕ × Labelled) → List LabelledDocument
documents_of entries = map (λ entry. record { doc = record { 0 = entry.0 }; given = entry.1.given; ruling = entry.1.ruling }) entries

-- each document's number, and the room for more labels of it
abbrev pub rooms_of : List (ℕ × Labelled) → List (ℕ × ℕ)
rooms_of entries = map (λ entry. (entry.0, entry.1.spare)) entries

-- the room for more labels of a document
abbrev pub room_at : List (ℕ × Labelled) → DocId → Option ℕ
room_at entries doc = lookup (λ number. doc.0 == number) (rooms_of entries)

-- room for one more label: at the document's labels, or, where it has none, for one more document and in the labels that it will get
abbrev pub LabelHasRoom : Option ℕ → ℕ → ℕ → Type 0
LabelHasRoom (Some spare) slots fresh = 1 ≤ spare
LabelHasRoom None slots fresh = (1 ≤ slots) × (1 ≤ fresh)

-- each document that is there has a label, the documents stand in a list too, which has room for one more wherever a label has,
-- the labels for a new document are empty, and there is the room that contracts see
pub record IsKept (docs : List DocId) (places : ℕ) (entries : List (ℕ × Labelled)) (slots : ℕ) (fresh : Labelled) (room : Option DocId) : Type 0 where
  pub docs_are : docs ≡ labelled_docs (documents_of entries)
  pub place : IsTrue (is_some room) → 1 ≤ places
  pub labelled : (doc : DocId) → is_labelled_document (documents_of entries) doc ≡ nat_lt 0 (length (given_at (documents_of entries) doc))
  pub given : fresh.given ≡ []
  pub ruling : fresh.ruling ≡ None
  pub room_is : ForSome room (λ doc. LabelHasRoom (room_at entries doc) slots fresh.spare)
