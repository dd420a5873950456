-- Which documents are listed: those with a label, and those of the trail that have a grade.
use Rattle.std.proofs.Common.{◌≡◌, ◌||◌, ◌⊎◌, inl, inr, ℕ, suc, length, Bool, true, false, cond, List, [], ◌∷◌, ◌++◌, map, refl, sym, ap, ◌∙◌, filter, is_some, arith, lt-ltb}
use Rattle.std.specs.Prelude.{◌&&◌, if◌then◌else◌, nat_lt}
use Rattle.std.specs.List.{flat_map, fold, list_any}
use Rattle.std.specs.Str.{bytes_eq}
use Rattle.std.specs.Cmp.{both_ways}
use Rattle.std.proofs.lemmas.List.{append_assoc, append-nil, map-append}
use Rattle.std.proofs.lemmas.List.Elements.{filter-append, filter_map-append}
use Rattle.std.proofs.lemmas.List.Folds.{flat_map-map, list_any-append}
use Rattle.std.proofs.lemmas.List.Sums.{fold-append}
use Rattle.std.proofs.lemmas.Slice.Eq.{bytes_eq-Decides}
use Rattle.std.proofs.lemmas.Bool.{or_cases, and_from, and_parts, or_right}
use Rattle.decimal_rank.specs.Names.{with_name}
use Rattle.decimal_rank.proofs.TruthValues.{bytes_eq-swap}
use Rattle.labels.specs.declared.given.Given.{Given}
use Rattle.labels.specs.DocumentLabels.{with_label}
use Rattle.rulebook.specs.Words.{Text, contains_text, each_once, prefixes}
use Rattle.rulebook.specs.Campaign.{History}
use Rattle.rulebook.specs.Judgements.Grades.{Label, effective, given_labels, graded_documents, is_label_on, is_labelled, label_of, labelled_documents, trail}
use Rattle.rulebook.proofs.Elements.TextLists.{all-among, all-stay-among, passes-among}
use Rattle.rulebook.proofs.Judgements.Trails.{graded-on-trail}

-- Texts, each once

from-with : (names : List Text) (name doc : Text) → contains_text (with_name names name) doc ≡ true
    → (contains_text names doc ≡ true) ⊎ (bytes_eq doc name ≡ true)
from-with names name doc has = step (contains_text names name) has
  where
    last : (s t : Bool) → (s || (t || false)) ≡ true → (s ≡ true) ⊎ (t ≡ true)
    last true t e = inl refl
    last false true e = inr refl
    last false false e = cc e

    step : (t : Bool) → contains_text (if t then names else names ++ name ∷ []) doc ≡ true → (contains_text names doc ≡ true) ⊎ (bytes_eq doc name ≡ true)
    step true there = inl there
    step false there = last (contains_text names doc) (bytes_eq doc name) (sym (list_any-append (bytes_eq doc) names (name ∷ [])) ∙ there)

from-all : (names docs : List Text) (doc : Text) → contains_text (fold with_name names docs) doc ≡ true
    → (contains_text names doc ≡ true) ⊎ (contains_text docs doc ≡ true)
from-all names [] doc has = inl has
from-all names (first ∷ docs) doc has = step (from-all (with_name names first) docs doc has)
  where
    new : (contains_text names doc ≡ true) ⊎ (bytes_eq doc first ≡ true)
        → (contains_text names doc ≡ true) ⊎ ((bytes_eq doc first || contains_text docs doc) ≡ true)
    new (inl there) = inl there
    new (inr same) = inr (ap (λ t. t || contains_text docs doc) same)

    step : (contains_text (with_name names first) doc ≡ true) ⊎ (contains_text docs doc ≡ true)
        → (contains_text names doc ≡ true) ⊎ ((bytes_eq doc first || contains_text docs doc) ≡ true)
    step (inl early) = new (from-with names first doc early)
    step (inr late) = inr (or_right (bytes_eq doc first) (contains_text docs doc) late)

same-once : (docs : List Text) (doc : Text) → contains_text (each_once docs) doc ≡ contains_text docs doc
same-once docs doc = both_ways (contains_text (each_once docs) doc) (contains_text docs doc) (λ has. given (from-all [] docs doc has)) (all-among [] docs doc)
  where
    given : (contains_text [] doc ≡ true) ⊎ (contains_text docs doc ≡ true) → contains_text docs doc ≡ true
    given (inl none) = cc none
    given (inr there) = there

from-filter : (p : Text → Bool) (docs : List Text) (doc : Text) → contains_text (filter p docs) doc ≡ true → (contains_text docs doc ≡ true) × (p doc ≡ true)
from-filter p [] doc has = cc has
from-filter p (x ∷ docs) doc has = step (p x) refl has (from-filter p docs doc)
  where
    later : (contains_text docs doc ≡ true) × (p doc ≡ true) → ((bytes_eq doc x || contains_text docs doc) ≡ true) × (p doc ≡ true)
    later both = (or_right (bytes_eq doc x) (contains_text docs doc) both.0, both.1)

    here : (t : Bool) → bytes_eq doc x ≡ t → p x ≡ true → (t || contains_text (filter p docs) doc) ≡ true
        → (contains_text (filter p docs) doc ≡ true → (contains_text docs doc ≡ true) × (p doc ≡ true))
        → ((t || contains_text docs doc) ≡ true) × (p doc ≡ true)
    here true same passes found rest = (refl, ap p ((bytes_eq-Decides doc x).0 same) ∙ passes)
    here false same passes found rest = rest found

    step : (t : Bool) → p x ≡ t → contains_text (cond t (x ∷ filter p docs) (filter p docs)) doc ≡ true
        → (contains_text (filter p docs) doc ≡ true → (contains_text docs doc ≡ true) × (p doc ≡ true))
        → ((bytes_eq doc x || contains_text docs doc) ≡ true) × (p doc ≡ true)
    step true passes found rest = here (bytes_eq doc x) refl passes found rest
    step false passes found rest = later (rest found)

-- Documents with a label

on-topic : (topic doc : Text) (ls : List Label)
    → contains_text (map (λ label. label.doc) (filter (λ label. bytes_eq label.topic topic) ls)) doc ≡ list_any (is_label_on topic doc) ls
on-topic topic doc [] = refl
on-topic topic doc (l ∷ ls) = step (bytes_eq l.topic topic) (on-topic topic doc ls)
  where
    step : (t : Bool) → contains_text (map (λ (label : Label). label.doc) (filter (λ (label : Label). bytes_eq label.topic topic) ls)) doc
        ≡ list_any (is_label_on topic doc) ls
        → contains_text
        (map (λ (label : Label). label.doc)
        (cond t (l ∷ filter (λ (label : Label). bytes_eq label.topic topic) ls) (filter (λ (label : Label). bytes_eq label.topic topic) ls))) doc
        ≡ ((t && bytes_eq l.doc doc) || list_any (is_label_on topic doc) ls)
    step true rest =
        ap (λ t. t || contains_text (map (λ (label : Label). label.doc) (filter (λ (label : Label). bytes_eq label.topic topic) ls)) doc)
        (bytes_eq-swap doc l.doc)
        ∙ ap (λ t. bytes_eq l.doc doc || t) rest
    step false rest = rest

abbrev joined : List Given → Label → List Given
joined labels label = with_label label.assessor label.grade labels

some-label : (assessor : Text) (grade : ℕ) (labels : List Given) → nat_lt 0 (length (with_label assessor grade labels)) ≡ true
some-label assessor grade [] = refl
some-label assessor grade (label ∷ labels) = step (bytes_eq label.assessor assessor)
  where
    step : (t : Bool) → nat_lt 0 (length (cond t (record label { grade = grade } ∷ labels) (label ∷ with_label assessor grade labels))) ≡ true
    step true = lt-ltb 0 (suc (length labels)) (omega arith)
    step false = lt-ltb 0 (suc (length (with_label assessor grade labels))) (omega arith)

some-stay : (labels : List Given) (ls : List Label) → nat_lt 0 (length labels) ≡ true → nat_lt 0 (length (fold joined labels ls)) ≡ true
some-stay labels [] some = some
some-stay labels (l ∷ ls) some = some-stay (joined labels l) ls (some-label l.assessor l.grade labels)

some-given : (topic doc : Text) (ls : List Label) → nat_lt 0 (length (fold joined [] (filter (is_label_on topic doc) ls))) ≡ list_any (is_label_on topic doc) ls
some-given topic doc [] = refl
some-given topic doc (l ∷ ls) = step (is_label_on topic doc l) (some-given topic doc ls)
  where
    step : (t : Bool) → nat_lt 0 (length (fold joined [] (filter (is_label_on topic doc) ls))) ≡ list_any (is_label_on topic doc) ls
        → nat_lt 0 (length (fold joined [] (cond t (l ∷ filter (is_label_on topic doc) ls) (filter (is_label_on topic doc) ls))))
        ≡ (t || list_any (is_label_on topic doc) ls)
    step true rest = some-stay (joined [] l) (filter (is_label_on topic doc) ls) (some-label l.assessor l.grade [])
    step false rest = rest

pub listed-labelled : (H : History) (topic doc : Text) → contains_text (labelled_documents H topic) doc ≡ is_labelled H topic doc
listed-labelled H topic doc =
    same-once (map (λ label. label.doc) (filter (λ label. bytes_eq label.topic topic) (given_labels H))) doc
    ∙ on-topic topic doc (given_labels H) ∙ sym (some-given topic doc (given_labels H))

-- Documents of the trail

pub labelled-grow : (part rest : History) (topic doc : Text) → contains_text (labelled_documents part topic) doc ≡ true
    → contains_text (labelled_documents (part ++ rest) topic) doc ≡ true
labelled-grow part rest topic doc there =
    let on : Label → Bool = λ label. bytes_eq label.topic topic in
    let docs : List Label → List Text = map (λ label. label.doc) in
    ap (λ ls. contains_text (each_once (docs (filter on ls))) doc) (filter_map-append label_of part rest)
    ∙ ap (λ ls. contains_text (each_once (docs ls)) doc) (filter-append on (given_labels part) (given_labels rest))
    ∙ ap (λ ts. contains_text (each_once ts) doc) (map-append (λ label. label.doc) (filter on (given_labels part)) (filter on (given_labels rest)))
    ∙ ap (λ ts. contains_text ts doc) (fold-append with_name [] (docs (filter on (given_labels part))) (docs (filter on (given_labels rest))))
    ∙ all-stay-among (labelled_documents part topic) (docs (filter on (given_labels rest))) doc there

flat-same : {X Y : Type 0} (f g : X → List Y) (xs : List X) → ((x : X) → f x ≡ g x) → flat_map f xs ≡ flat_map g xs
flat-same f g [] same = refl
flat-same f g (x ∷ xs) same = ap (λ ys. ys ++ flat_map f xs) (same x) ∙ ap (λ ys. g x ++ ys) (flat-same f g xs same)

module _ (topic doc : Text) where
  graded-labelled : (part : History) → contains_text (graded_documents part topic) doc ≡ true → contains_text (labelled_documents part topic) doc ≡ true
  graded-labelled part there = (from-filter (λ doc. is_some (effective part topic doc)) (labelled_documents part topic) doc there).0

  abbrev docs_after : History → History → List Text
  docs_after front part = graded_documents (front ++ part) topic

  early : (front rest : History) → contains_text (graded_documents (front ++ []) topic) doc ≡ true
      → contains_text (labelled_documents (front ++ rest) topic) doc ≡ true
  early front rest there =
      labelled-grow front rest topic doc
      (ap (λ H. contains_text (labelled_documents H topic) doc) (sym (append-nil front)) ∙ graded-labelled (front ++ []) there)

  along : (front rest : History) → contains_text (flat_map (docs_after front) (prefixes rest)) doc ≡ true
      → contains_text (labelled_documents (front ++ rest) topic) doc ≡ true
  along front [] there = early front [] (ap (λ ts. contains_text ts doc) (sym (append-nil (graded_documents (front ++ []) topic))) ∙ there)
  along front (e ∷ rest) there =
      step (or_cases (contains_text (graded_documents (front ++ []) topic) doc)
      (contains_text (flat_map (docs_after front) (map (λ part. e ∷ part) (prefixes rest))) doc)
      (sym (list_any-append (bytes_eq doc) (graded_documents (front ++ []) topic) (flat_map (docs_after front) (map (λ part. e ∷ part) (prefixes rest))))
      ∙ there)) (along (front ++ e ∷ []) rest)
    where
      longer : (part : History) → front ++ (e ∷ part) ≡ (front ++ e ∷ []) ++ part
      longer part = sym (append_assoc front (e ∷ []) part)

      step : (contains_text (graded_documents (front ++ []) topic) doc ≡ true)
          ⊎ (contains_text (flat_map (docs_after front) (map (λ part. e ∷ part) (prefixes rest))) doc ≡ true)
          → (contains_text (flat_map (docs_after (front ++ e ∷ [])) (prefixes rest)) doc ≡ true
          → contains_text (labelled_documents ((front ++ e ∷ []) ++ rest) topic) doc ≡ true)
          → contains_text (labelled_documents (front ++ (e ∷ rest)) topic) doc ≡ true
      step (inl here) later = early front (e ∷ rest) here
      step (inr there) later =
          ap (λ H. contains_text (labelled_documents H topic) doc) (longer rest)
          ∙ later (ap (λ ts. contains_text ts doc) (sym (flat_map-map (docs_after front) (λ part. e ∷ part) (prefixes rest)
          ∙ flat-same (λ part. docs_after front (e ∷ part)) (docs_after (front ++ e ∷ [])) (prefixes rest)
          (λ part. ap (λ H. graded_documents H topic) (longer part)))) ∙ there)

  trail-labelled : (H : History) → contains_text (trail H topic) doc ≡ true → contains_text (labelled_documents H topic) doc ≡ true
  trail-labelled H there = along [] H (sym (same-once (flat_map (docs_after []) (prefixes H)) doc) ∙ there)

pub graded-listed : (H : History) (topic doc : Text)
    → contains_text (graded_documents H topic) doc ≡ (contains_text (trail H topic) doc && is_some (effective H topic doc))
graded-listed H topic doc =
    let has_grade : Text → Bool = λ doc. is_some (effective H topic doc) in
    both_ways (contains_text (graded_documents H topic) doc) (contains_text (trail H topic) doc && has_grade doc)
    (λ there. and_from (contains_text (trail H topic) doc) (has_grade doc) (graded-on-trail H topic doc there)
    (from-filter has_grade (labelled_documents H topic) doc there).1)
    (λ both. let parts = and_parts (contains_text (trail H topic) doc) (has_grade doc) both in
    passes-among has_grade (labelled_documents H topic) doc (trail-labelled topic doc H parts.0) parts.1)
