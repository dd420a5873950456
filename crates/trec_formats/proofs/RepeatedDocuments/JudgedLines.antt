-- The grade that qrels give a document, by the line that is found for it.
use Rattle.std.proofs.Common.{◌≡◌, ◌&&◌, ℕ, Bool, true, false, List, [], ◌∷◌, Option, Some, None, find, map, refl, sym, ◌∙◌, ap, bytes_eq}
use Rattle.std.specs.Option.{option_map}
use Rattle.std.proofs.lemmas.Cmp.{nat_list_eq_equiv}
use Rattle.trec_formats.specs.declared.qrels.QrelLine.{QrelLine}
use Rattle.trec_formats.specs.declared.qrels.QrelView.{QrelView}
use Rattle.trec_formats.specs.Documents.{names}
use Rattle.trec_formats.specs.RunFormat.LineViews.{qrel_shown}
use Rattle.trec_formats.specs.QrelsFormat.Qrels.{grade_on}
use Rattle.trec_formats.proofs.RepeatedDocuments.ShownLines.{find_shown}

-- tests that say the same find the same
find_step : {X : Type 0} (p q : X → Bool) (x : X) (xs : List X) (t : Bool) → p x ≡ t → q x ≡ t → find p xs ≡ find q xs → find p (x ∷ xs) ≡ find q (x ∷ xs)
find_step p q x xs true is are rest = rw (is, are) refl
find_step p q x xs false is are rest = rw (is, are) rest

find_alike : {X : Type 0} (p q : X → Bool) → ((x : X) → p x ≡ q x) → (xs : List X) → find p xs ≡ find q xs
find_alike p q alike [] = refl
find_alike p q alike (x ∷ xs) = find_step p q x xs (q x) (alike x) refl (find_alike p q alike xs)

abbrev of_document : List ℕ → List ℕ → QrelView → Bool
of_document = names (λ view. view.topic.now) (λ view. view.doc.now)

abbrev is_on : List ℕ → List ℕ → QrelLine → Bool
is_on topic doc line = bytes_eq line.topic topic && bytes_eq line.doc doc

same_test : (topic doc : List ℕ) (view : QrelView) → of_document topic doc view ≡ is_on topic doc (qrel_shown view)
same_test topic doc view =
    ap (λ t. t && bytes_eq doc view.doc.now) (nat_list_eq_equiv.symm topic view.topic.now)
    ∙ ap (λ t. bytes_eq view.topic.now topic && t) (nat_list_eq_equiv.symm doc view.doc.now)

grade_shown : (o : Option QrelView) → option_map (λ view. view.grade) o ≡ option_map (λ (line : QrelLine). line.grade) (option_map qrel_shown o)
grade_shown (Some view) = refl
grade_shown None = refl

-- the grade is that of the first line that names the document
grade_found : (views : List QrelView) (topic doc : List ℕ)
    → option_map (λ view. view.grade) (find (of_document topic doc) views) ≡ grade_on (map qrel_shown views) topic doc
grade_found views topic doc =
    ap (option_map (λ (view : QrelView). view.grade)) (find_alike _ _ (same_test topic doc) views)
    ∙ grade_shown (find (λ view. is_on topic doc (qrel_shown view)) views)
    ∙ ap (option_map (λ (line : QrelLine). line.grade)) (sym (find_shown qrel_shown (is_on topic doc) views))

pub grade_at : (views : List QrelView) (topic doc : List ℕ) (view : QrelView) → find (of_document topic doc) views ≡ Some view
    → Some view.grade ≡ grade_on (map qrel_shown views) topic doc
grade_at views topic doc view found = ap (option_map (λ (view : QrelView). view.grade)) (sym found) ∙ grade_found views topic doc

pub no_grade : (views : List QrelView) (topic doc : List ℕ) → find (of_document topic doc) views ≡ None → None ≡ grade_on (map qrel_shown views) topic doc
no_grade views topic doc none = ap (option_map (λ (view : QrelView). view.grade)) (sym none) ∙ grade_found views topic doc
