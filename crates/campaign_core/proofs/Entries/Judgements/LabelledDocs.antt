-- The documents with a label by their numbers, after one more label and after a ruling.
use Rattle.std.proofs.Common.{◌≡◌, ◌||◌, ◌∙◌, ℕ, Bool, true, false, List, [], ◌∷◌, ◌++◌, Some, ap, refl, sym}
use Rattle.std.specs.Prelude.{◌==◌, if◌then◌else◌}
use Rattle.std.specs.Str.{bytes_eq}
use Rattle.decimal_rank.specs.Names.{with_name}
use Rattle.decimal_rank.specs.declared.naming.DocId.{DocId}
use Rattle.decimal_rank.proofs.Lists.{all_head, all_tail}
use Rattle.labels.specs.DocumentLabels.{with_label}
use Rattle.labels.specs.LabelledDocuments.{LabelledDocument, labelled_docs as marked_docs, with_label_at, with_ruling_at}
use Rattle.rulebook.specs.Words.{Text, contains_text}
use Rattle.campaign_core.specs.Numbering.Numbers.{are_named, doc_in, docs_in}
use Rattle.campaign_core.proofs.NamedDocuments.LiveLeases.{same-number}

module _ (names : List Text) (doc : Text) (assessor : List ℕ) (grade : ℕ) (there : contains_text names doc ≡ true) where
  -- a document keeps its place, and goes last where it wasn't there
  pub labelled-with : (docs : List Text) (marked : List LabelledDocument) → are_named names docs ≡ true → marked_docs marked ≡ docs_in names docs
      → marked_docs (with_label_at (doc_in names doc) assessor grade marked) ≡ docs_in names (with_name docs doc)
  labelled-with [] [] named same = refl
  labelled-with [] (one ∷ marked) named same = absurd (cc)
  labelled-with (x ∷ docs) [] named same = absurd (cc)
  labelled-with (x ∷ docs) (one ∷ marked) named same =
      let first : one.doc ≡ doc_in names x = cc same in
      let later : marked_docs marked ≡ docs_in names docs = cc same in
      let test : ((doc_in names doc).0 == one.doc.0) ≡ bytes_eq doc x =
      ap (λ (d : DocId). (doc_in names doc).0 == d.0) first ∙ same-number names doc x there (all_head (contains_text names) x docs named) in
      ap (λ t. marked_docs
      (if t then record one { given = with_label assessor grade one.given } ∷ marked else one ∷ with_label_at (doc_in names doc) assessor grade marked)) test
      ∙ step (bytes_eq doc x) refl first (labelled-with docs marked (all_tail (contains_text names) x docs named) later)
    where
      behind : (t : Bool) → (if t then x ∷ docs else x ∷ docs ++ doc ∷ []) ≡ x ∷ (if t then docs else docs ++ doc ∷ [])
      behind true = refl
      behind false = refl

      joined : Bool → List Text
      joined t = if (t || contains_text docs doc) then x ∷ docs else x ∷ docs ++ doc ∷ []

      step : (t : Bool) → bytes_eq doc x ≡ t → one.doc ≡ doc_in names x
          → marked_docs (with_label_at (doc_in names doc) assessor grade marked) ≡ docs_in names (with_name docs doc)
          → marked_docs
          (if t then record one { given = with_label assessor grade one.given } ∷ marked else one ∷ with_label_at (doc_in names doc) assessor grade marked)
          ≡ docs_in names (with_name (x ∷ docs) doc)
      step true is first rest = same ∙ ap (docs_in names) (sym (ap joined is))
      step false is first rest =
          ap (λ ds. one.doc ∷ ds) rest ∙ ap (λ d. d ∷ docs_in names (with_name docs doc)) first
          ∙ ap (docs_in names) (sym (ap joined is ∙ behind (contains_text docs doc)))

-- the documents stay after a ruling
pub labelled-ruled : (doc : DocId) (grade : ℕ) (marked : List LabelledDocument) → marked_docs (with_ruling_at doc grade marked) ≡ marked_docs marked
labelled-ruled doc grade [] = refl
labelled-ruled doc grade (one ∷ marked) = step (doc.0 == one.doc.0) (labelled-ruled doc grade marked)
  where
    step : (t : Bool) → marked_docs (with_ruling_at doc grade marked) ≡ marked_docs marked
        → marked_docs (if t then record one { ruling = Some grade } ∷ marked else one ∷ with_ruling_at doc grade marked) ≡ one.doc ∷ marked_docs marked
    step true rest = refl
    step false rest = ap (λ docs. one.doc ∷ docs) rest
