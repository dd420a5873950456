-- Which documents are listed as showing a disagreement.
use Rattle.std.proofs.Common.{◌≡◌, ℕ, Bool, true, false, cond, ◌&&◌, ◌||◌, eqb, eqb-true, List, [], ◌∷◌, filter, refl, sym, ap, ◌∙◌}
use Rattle.std.specs.List.{AllByRecursion, IsDistinct}
use Rattle.std.specs.Map.{keys_of}
use Rattle.std.proofs.lemmas.Map.Keys.{IsDistinct-head, IsDistinct-tail}
use Rattle.decimal_rank.specs.declared.naming.DocId.{DocId}
use Rattle.labels.specs.Grades.{shows_disagreement}
use Rattle.labels.specs.DocumentLabels.{grades_of}
use Rattle.labels.specs.LabelledDocuments.{LabelledDocument, disagreeing, disagrees_at, given_at, is_listed, labelled_docs, ruling_at}
use Rattle.labels.specs.TopicLabelViews.{documents_of}
use Rattle.labels.proofs.Entries.{Entry}

abbrev shows : ℕ → LabelledDocument → Bool
shows need one = shows_disagreement need (grades_of one.given) one.ruling

abbrev lists : ℕ → List Entry → DocId → Bool
lists need entries doc = is_listed (disagreeing need (documents_of entries)) doc

abbrev marked_by : Entry → LabelledDocument
marked_by entry = record { doc = record { 0 = entry.0 }; given = entry.1.given; ruling = entry.1.ruling }

listed-cons : (need : ℕ) (doc : DocId) (entry : Entry) (entries : List Entry)
    → lists need (entry ∷ entries) doc ≡ cond (shows need (marked_by entry)) (eqb doc.0 entry.0 || lists need entries doc) (lists need entries doc)
listed-cons need doc entry entries = step (shows need (marked_by entry))
  where
    rest : List LabelledDocument
    rest = filter (shows need) (documents_of entries)

    step : (t : Bool) → is_listed (labelled_docs (cond t (marked_by entry ∷ rest) rest)) doc
        ≡ cond t (eqb doc.0 entry.0 || is_listed (labelled_docs rest) doc) (is_listed (labelled_docs rest) doc)
    step true = refl
    step false = refl

-- a document that isn't there isn't listed
none_listed : (need : ℕ) (doc : DocId) (number : ℕ) (entries : List Entry) → doc.0 ≡ number
    → AllByRecursion (λ other. eqb number other ≡ false) (keys_of entries) → lists need entries doc ≡ false
none_listed need doc number [] same apart = refl
none_listed need doc number (entry ∷ entries) same apart =
    listed-cons need doc entry entries ∙ step (shows need (marked_by entry)) (none_listed need doc number entries same apart.1)
  where
    other : eqb doc.0 entry.0 ≡ false
    other = ap (λ n. eqb n entry.0) same ∙ apart.0

    step : (t : Bool) → lists need entries doc ≡ false → cond t (eqb doc.0 entry.0 || lists need entries doc) (lists need entries doc) ≡ false
    step true rest = ap (λ t. t || lists need entries doc) other ∙ rest
    step false rest = rest

-- a document without a label shows none
none_shown : (t : Bool) → false ≡ ((t && false) && true)
none_shown true = refl
none_shown false = refl

pub listed_each : (need : ℕ) (entries : List Entry) → IsDistinct eqb (keys_of entries) → (doc : DocId)
    → lists need entries doc ≡ disagrees_at need (documents_of entries) doc
listed_each need [] once doc = none_shown (eqb need 2)
listed_each need (entry ∷ entries) once doc =
    listed-cons need doc entry entries
    ∙ step (eqb doc.0 entry.0) refl (shows need (marked_by entry)) refl (listed_each need entries (IsDistinct-tail eqb entry.0 (keys_of entries) once) doc)
  where
    step : (here : Bool) → eqb doc.0 entry.0 ≡ here → (t : Bool) → shows need (marked_by entry) ≡ t
        → lists need entries doc ≡ disagrees_at need (documents_of entries) doc
        → cond t (here || lists need entries doc) (lists need entries doc)
        ≡ shows_disagreement need (grades_of (cond here entry.1.given (given_at (documents_of entries) doc)))
        (cond here entry.1.ruling (ruling_at (documents_of entries) doc))
    step true e true shown rest = sym shown
    step true e false shown rest = none_listed need doc entry.0 entries (eqb-true _ _ e) (IsDistinct-head eqb entry.0 (keys_of entries) once) ∙ sym shown
    step false e true shown rest = rest
    step false e false shown rest = rest
