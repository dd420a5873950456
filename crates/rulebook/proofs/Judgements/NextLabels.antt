-- What one more entry does to labels, and to the documents with one.
use Rattle.std.proofs.Common.{◌≡◌, Bool, true, false, List, [], ◌∷◌, ◌++◌, None, Some, map, refl, ap, ◌∙◌, filter}
use Rattle.std.specs.Prelude.{if◌then◌else◌}
use Rattle.std.specs.List.{filter_map, fold}
use Rattle.std.specs.Str.{bytes_eq}
use Rattle.std.proofs.lemmas.List.{append-nil, map-append}
use Rattle.std.proofs.lemmas.List.Elements.{filter-append, filter_map-append}
use Rattle.std.proofs.lemmas.List.Sums.{fold-append}
use Rattle.decimal_rank.specs.Names.{with_name}
use Rattle.labels.specs.declared.given.Given.{Given}
use Rattle.labels.specs.DocumentLabels.{with_label}
use Rattle.rulebook.specs.Words.{Text, each_once}
use Rattle.rulebook.specs.Campaign.{History}
use Rattle.rulebook.specs.Judgements.Grades.{Label, given_labels, given_on, is_label_on, label_of, labelled_documents, labels_on}
use Rattle.rulebook.specs.declared.entry.Entry.{Entry}

none-given : (H : History) (e : Entry) → label_of e ≡ None → given_labels (H ++ e ∷ []) ≡ given_labels H
none-given H e none =
    let one : filter_map label_of (e ∷ []) ≡ [] = rw none refl in
    filter_map-append label_of H (e ∷ []) ∙ ap (λ ls. given_labels H ++ ls) one ∙ append-nil (given_labels H)

one-given : (H : History) (e : Entry) (l : Label) → label_of e ≡ Some l → given_labels (H ++ e ∷ []) ≡ given_labels H ++ l ∷ []
one-given H e l some =
    let one : filter_map label_of (e ∷ []) ≡ l ∷ [] = rw some refl in
    filter_map-append label_of H (e ∷ []) ∙ ap (λ ls. given_labels H ++ ls) one

abbrev joined : List Given → Label → List Given
joined labels label = with_label label.assessor label.grade labels

pub labels-stay : (H : History) (e : Entry) (topic doc : Text) → label_of e ≡ None → labels_on (H ++ e ∷ []) topic doc ≡ labels_on H topic doc
labels-stay H e topic doc none = ap (λ ls. fold joined [] (filter (is_label_on topic doc) ls)) (none-given H e none)

joins-step : (labels : List Given) (l : Label) (t : Bool) → fold joined labels (if t then l ∷ [] else []) ≡ (if t then joined labels l else labels)
joins-step labels l true = refl
joins-step labels l false = refl

one-filtered : (topic doc : Text) (l : Label) (t : Bool) → is_label_on topic doc l ≡ t → filter (is_label_on topic doc) (l ∷ []) ≡ (if t then l ∷ [] else [])
one-filtered topic doc l true is = rw is refl
one-filtered topic doc l false is = rw is refl

pub label-joins : (H : History) (e : Entry) (l : Label) (topic doc : Text) → label_of e ≡ Some l
    → labels_on (H ++ e ∷ []) topic doc ≡ (if is_label_on topic doc l then with_label l.assessor l.grade (labels_on H topic doc) else labels_on H topic doc)
label-joins H e l topic doc some =
    ap (λ ls. fold joined [] (filter (is_label_on topic doc) ls)) (one-given H e l some)
    ∙ ap (fold joined []) (filter-append (is_label_on topic doc) (given_labels H) (l ∷ []))
    ∙ fold-append joined [] (given_on H topic doc) (filter (is_label_on topic doc) (l ∷ []))
    ∙ ap (fold joined (labels_on H topic doc)) (one-filtered topic doc l (is_label_on topic doc l) refl)
    ∙ joins-step (labels_on H topic doc) l (is_label_on topic doc l)

-- the documents with a label after an entry that gives none
pub labelled-kept : (H : History) (e : Entry) (topic : Text) → label_of e ≡ None → labelled_documents (H ++ e ∷ []) topic ≡ labelled_documents H topic
labelled-kept H e topic none =
    ap (λ (ls : List Label). each_once (map (λ (label : Label). label.doc) (filter (λ (label : Label). bytes_eq label.topic topic) ls))) (none-given H e none)

-- the documents with a label after one more grade
pub label-labels : (H : History) (e : Entry) (l : Label) (topic : Text) → label_of e ≡ Some l
    → labelled_documents (H ++ e ∷ []) topic ≡ (if bytes_eq l.topic topic then with_name (labelled_documents H topic) l.doc else labelled_documents H topic)
label-labels H e l topic some =
    let on : Label → Bool = λ label. bytes_eq label.topic topic in
    let docs : List Label → List Text = map (λ label. label.doc) in
    ap (λ ls. each_once (docs (filter on ls))) (one-given H e l some)
    ∙ ap (λ ls. each_once (docs ls)) (filter-append on (given_labels H) (l ∷ []))
    ∙ ap each_once (map-append (λ label. label.doc) (filter on (given_labels H)) (filter on (l ∷ [])))
    ∙ fold-append with_name [] (docs (filter on (given_labels H))) (docs (filter on (l ∷ [])))
    ∙ step (bytes_eq l.topic topic) refl
  where
    step : (t : Bool) → bytes_eq l.topic topic ≡ t
        → fold with_name (labelled_documents H topic) (map (λ (label : Label). label.doc) (filter (λ (label : Label). bytes_eq label.topic topic) (l ∷ [])))
        ≡ (if t then with_name (labelled_documents H topic) l.doc else labelled_documents H topic)
    step true is = rw is refl
    step false is = rw is refl
