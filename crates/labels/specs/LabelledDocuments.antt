-- The labels of all documents of one topic.
use Rattle.std.specs.Prelude.{ℕ, ◌==◌, Bool, List, [], ◌∷◌, Option, Some, None, filter, map, if◌then◌else◌}
use Rattle.std.specs.List.{list_any}
use Rattle.decimal_rank.specs.declared.naming.DocId.{DocId}
use Rattle.labels.specs.declared.given.Given.{Given}
use Rattle.labels.specs.Grades.{effective_grade, shows_disagreement}
use Rattle.labels.specs.DocumentLabels.{grades_of, with_label}

-- a document, the last label of each assessor in the order of their first labels, and the last ruling
pub record LabelledDocument : Type 0 where
  pub doc : DocId
  pub given : List Given
  pub ruling : Option ℕ

-- the documents, in their order
abbrev pub labelled_docs : List LabelledDocument → List DocId
labelled_docs marked = map (λ one. one.doc) marked

-- whether a document is among these
abbrev pub is_labelled_document : List LabelledDocument → DocId → Bool
is_labelled_document marked doc = list_any (λ one. doc.0 == one.doc.0) marked

-- the labels of a document: none where it isn't there
abbrev pub given_at : List LabelledDocument → DocId → List Given
given_at [] doc = []
given_at (one ∷ later) doc = if doc.0 == one.doc.0 then one.given else given_at later doc

-- the last ruling on a document
abbrev pub ruling_at : List LabelledDocument → DocId → Option ℕ
ruling_at [] doc = None
ruling_at (one ∷ later) doc = if doc.0 == one.doc.0 then one.ruling else ruling_at later doc

-- the documents after an assessor gives one of them a grade: it keeps its place, and goes last where it wasn't there
abbrev pub with_label_at : DocId → List ℕ → ℕ → List LabelledDocument → List LabelledDocument
with_label_at doc assessor grade [] = record { doc = doc; given = with_label assessor grade []; ruling = None } ∷ []
with_label_at doc assessor grade (one ∷ later) =
    if doc.0 == one.doc.0 then record one { given = with_label assessor grade one.given } ∷ later else one ∷ with_label_at doc assessor grade later

-- the documents after a ruling on one of them
abbrev pub with_ruling_at : DocId → ℕ → List LabelledDocument → List LabelledDocument
with_ruling_at doc grade [] = []
with_ruling_at doc grade (one ∷ later) =
    if doc.0 == one.doc.0 then record one { ruling = Some grade } ∷ later else one ∷ with_ruling_at doc grade later

-- the effective grade of a document
abbrev pub effective_at : ℕ → List LabelledDocument → DocId → Option ℕ
effective_at need marked doc = effective_grade need (grades_of (given_at marked doc)) (ruling_at marked doc)

-- the documents that show a disagreement, in their order
abbrev pub disagreeing : ℕ → List LabelledDocument → List DocId
disagreeing need marked = labelled_docs (filter (λ one. shows_disagreement need (grades_of one.given) one.ruling) marked)

-- whether a document shows a disagreement
abbrev pub disagrees_at : ℕ → List LabelledDocument → DocId → Bool
disagrees_at need marked doc = shows_disagreement need (grades_of (given_at marked doc)) (ruling_at marked doc)

-- whether a document is in a list
abbrev pub is_listed : List DocId → DocId → Bool
is_listed docs doc = list_any (λ other. doc.0 == other.0) docs
