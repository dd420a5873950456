-- The qrels lines of a topic are those of its documents with an effective grade, by docno.
use Rattle.std.proofs.Common.{◌≡◌, ◌||◌, ◌&&◌, ◌<◌, ℕ, Bool, true, false, not, cond, List, [], ◌∷◌, ◌++◌, Option, None, Some, filter, is_some, length, map, refl, sym, subst, ap, ◌∙◌, arith, Ordering, Less, Equal, Greater}
use Rattle.std.specs.Prelude.{All, unwrap_or}
use Rattle.std.specs.BTreeSet.{insert_key}
use Rattle.std.specs.List.{flat_map, list_all, list_any}
use Rattle.std.specs.Ordering.{is_lt, match_ordering}
use Rattle.std.specs.Str.{bytes_eq}
use Rattle.std.proofs.lemmas.List.Folds.{flat_map-map}
use Rattle.std.proofs.lemmas.Slice.Eq.{bytes_eq-Decides}
use Rattle.std.proofs.lemmas.Bool.{not-true, and_parts}
use Rattle.std.proofs.Math.Bool.{and_comm}
use Rattle.std.proofs.lemmas.List.Elements.{All-cons}
use Rattle.decimal_rank.specs.Names.{docno_of}
use Rattle.qrels_view.specs.Lines.{by_docno, docno_cmp, line_if_graded, put_by_docno, qrels_line, qrels_text}
use Rattle.qrels_view.specs.declared.grades.Graded.{Graded}
use Rattle.rulebook.specs.Spelling.{differ}
use Rattle.rulebook.specs.Words.{Text, contains_text, in_order}
use Rattle.rulebook.specs.Campaign.{History}
use Rattle.rulebook.specs.Histories.Entries.{GradedAreOnTrail}
use Rattle.rulebook.specs.Judgements.Grades.{effective, graded_documents, trail}
use Rattle.decimal_rank.specs.Texts.QrelLines.{qrel_line}
use Rattle.decimal_rank.proofs.Lists.{all_head, all_tail}
use Rattle.rulebook.specs.Reports.Pages.{qrels_lines}
use Rattle.campaign_core.specs.Assessments.TopicLabelling.{graded_in}
use Rattle.campaign_core.specs.Numbering.Numbers.{are_named, doc_in}
use Rattle.campaign_core.specs.Views.PrintedPages.{IsTopicOf}
use Rattle.assessment.specs.TopicFacts.{TopicFacts}
use Rattle.campaign_core.proofs.Entries.Judgements.LabelSteps.{trail-differs}
use Rattle.campaign_core.proofs.Lists.Elements.{all_cons}
use Rattle.campaign_core.proofs.Numbers.DocNumbers.{docno-back, number-within}
use Rattle.campaign_core.proofs.Numbers.NumberedDocs.{passing}
use Rattle.campaign_core.proofs.Lists.ByteOrder.{Rises, all_insert, any_insert, below, in_order-is, rises_insert, same_text, text_cmp}

-- Texts in order, where none stands twice

abbrev pub put : Text → List Text → List Text
put x [] = x ∷ []
put x (y ∷ ys) = cond (below x y) (x ∷ y ∷ ys) (y ∷ put x ys)

abbrev pub sorted : List Text → List Text
sorted [] = []
sorted (x ∷ xs) = put x (sorted xs)

put-inserts : (x : Text) (ys : List Text) → contains_text ys x ≡ false → put x ys ≡ insert_key text_cmp ys x
put-inserts x [] absent = refl
put-inserts x (y ∷ ys) absent = step (text_cmp x y) refl absent (put-inserts x ys)
  where
    later : (t : Bool) → (t || contains_text ys x) ≡ false → contains_text ys x ≡ false
    later true e = cc e
    later false e = e

    step : (o : Ordering) → text_cmp x y ≡ o → (bytes_eq x y || contains_text ys x) ≡ false → (contains_text ys x ≡ false → put x ys ≡ insert_key text_cmp ys x)
        → cond (is_lt o) (x ∷ y ∷ ys) (y ∷ put x ys) ≡ match_ordering o (x ∷ y ∷ ys) (y ∷ ys) (y ∷ insert_key text_cmp ys x)
    step Less is gone rest = refl
    step Equal is gone rest =
        let here : (bytes_eq x y || contains_text ys x) ≡ true = ap (λ t. t || contains_text ys x) ((bytes_eq-Decides x y).1 (same_text x y is)) in
        cc (here, gone)
    step Greater is gone rest = ap (λ zs. y ∷ zs) (rest (later (bytes_eq x y) gone))

-- what is sorted rises, and has the texts
pub record IsSortedOf (xs ys : List Text) : Type 0 where
  pub rises : Rises ys
  pub members : (p : Text → Bool) → list_any p ys ≡ list_any p xs
  pub all : (p : Text → Bool) → list_all p xs ≡ true → list_all p ys ≡ true

pub sorts : (xs : List Text) → differ xs ≡ true → IsSortedOf xs (sorted xs)
sorts [] differs = record { rises = tt; members = λ p. refl; all = λ p all. refl }
sorts (x ∷ xs) differs =
    let parts = and_parts (not (contains_text xs x)) (differ xs) differs in
    let rest = sorts xs parts.1 in
    let inserted : put x (sorted xs) ≡ insert_key text_cmp (sorted xs) x =
    put-inserts x (sorted xs) (rest.members (bytes_eq x) ∙ not-true (contains_text xs x) parts.0) in
    record {
      rises = subst Rises (sym inserted) (rises_insert (sorted xs) x rest.rises);
      members = λ p. ap (list_any p) inserted ∙ any_insert p (sorted xs) x ∙ ap (λ t. p x || t) (rest.members p);
      all = λ p all. ap (list_all p) inserted ∙ all_insert p (sorted xs) x (rest.all p (all_tail p x xs all)) (all_head p x xs all);
    }

all-filter : (p q : Text → Bool) (xs : List Text) → list_all p xs ≡ true → list_all p (filter q xs) ≡ true
all-filter p q [] all = refl
all-filter p q (x ∷ xs) all = step (q x) (all-filter p q xs (all_tail p x xs all))
  where
    step : (t : Bool) → list_all p (filter q xs) ≡ true → list_all p (cond t (x ∷ filter q xs) (filter q xs)) ≡ true
    step true rest = all_cons p x (filter q xs) (all_head p x xs all) rest
    step false rest = rest

pub rises-filter : (q : Text → Bool) (xs : List Text) → Rises xs → Rises (filter q xs)
rises-filter q [] up = tt
rises-filter q (x ∷ xs) up = step (q x) (rises-filter q xs up.1)
  where
    step : (t : Bool) → Rises (filter q xs) → Rises (cond t (x ∷ filter q xs) (filter q xs))
    step true rest = (all-filter (below x) q xs up.0, rest)
    step false rest = rest

-- Documents of the trail by docno

module _ (H : History) (names : List Text) (topic : Text) where
  abbrev one : Text → Graded
  one = graded_in H names topic

  put-same : (x : Text) (ys : List Text) → contains_text names x ≡ true → are_named names ys ≡ true
      → put_by_docno names (one x) (map one ys) ≡ map one (put x ys)
  put-same x [] there named = refl
  put-same x (y ∷ ys) there named =
      let other = all_head (contains_text names) y ys named in
      let test : docno_cmp names (one x).doc (one y).doc ≡ text_cmp x y =
      ap (λ a. text_cmp a (docno_of names (doc_in names y).0)) (docno-back names x there) ∙ ap (text_cmp x) (docno-back names y other) in
      ap (λ o. cond (is_lt o) (one x ∷ one y ∷ map one ys) (one y ∷ put_by_docno names (one x) (map one ys))) test
      ∙ step (below x y) (put-same x ys there (all_tail (contains_text names) y ys named))
    where
      step : (t : Bool) → put_by_docno names (one x) (map one ys) ≡ map one (put x ys)
          → cond t (one x ∷ one y ∷ map one ys) (one y ∷ put_by_docno names (one x) (map one ys)) ≡ map one (cond t (x ∷ y ∷ ys) (y ∷ put x ys))
      step true rest = refl
      step false rest = ap (λ zs. one y ∷ zs) rest

  sorted-same : (xs : List Text) → are_named names xs ≡ true → differ xs ≡ true → by_docno names (map one xs) ≡ map one (sorted xs)
  sorted-same [] named differs = refl
  sorted-same (x ∷ xs) named differs =
      let parts = and_parts (not (contains_text xs x)) (differ xs) differs in
      let rest = all_tail (contains_text names) x xs named in
      ap (put_by_docno names (one x)) (sorted-same xs rest parts.1)
      ∙ put-same x (sorted xs) (all_head (contains_text names) x xs named) ((sorts xs parts.1).all (contains_text names) rest)

  abbrev has : Text → Bool
  has doc = is_some (effective H topic doc)

  abbrev printed : Text → Text
  printed doc = qrel_line topic doc (unwrap_or (effective H topic doc) 0)

  lines-same : (xs : List Text) → are_named names xs ≡ true → flat_map (λ doc. qrels_line topic names (one doc)) xs ≡ flat_map printed (filter has xs)
  lines-same [] named = refl
  lines-same (x ∷ xs) named =
      ap (λ (doc : Text). line_if_graded topic doc (effective H topic x) ++ flat_map (λ doc. qrels_line topic names (one doc)) xs)
      (docno-back names x (all_head (contains_text names) x xs named))
      ∙ step (effective H topic x) refl (lines-same xs (all_tail (contains_text names) x xs named))
    where
      step : (o : Option ℕ) → effective H topic x ≡ o → flat_map (λ doc. qrels_line topic names (one doc)) xs ≡ flat_map printed (filter has xs)
          → line_if_graded topic x o ++ flat_map (λ doc. qrels_line topic names (one doc)) xs
          ≡ flat_map printed (cond (has x) (x ∷ filter has xs) (filter has xs))
      step None is rest = rest ∙ sym (ap (λ (o : Option ℕ). flat_map printed (cond (is_some o) (x ∷ filter has xs) (filter has xs))) is)
      step (Some grade) is rest =
          ap (λ ls. qrel_line topic x grade ++ ls) rest
          ∙ sym (ap (λ (o : Option ℕ). qrel_line topic x (unwrap_or o 0) ++ flat_map printed (filter has xs)) is)
          ∙ sym (ap (λ (o : Option ℕ). flat_map printed (cond (is_some o) (x ∷ filter has xs) (filter has xs))) is)

  pub graded-same : GradedAreOnTrail → filter has (sorted (trail H topic)) ≡ in_order (graded_documents H topic)
  graded-same on_trail =
      let sort = sorts (trail H topic) (trail-differs H topic) in
      in_order-is (graded_documents H topic) (filter has (sorted (trail H topic))) (rises-filter has (sorted (trail H topic)) sort.rises)
      (λ doc. passing has (sorted (trail H topic)) doc ∙ ap (λ t. has doc && t) (sort.members (bytes_eq doc))
      ∙ and_comm (has doc) (contains_text (trail H topic) doc) ∙ sym (on_trail H topic doc))

  within-each : (xs : List Text) → are_named names xs ≡ true → All (λ g. g.doc.0 < length names) (map one xs)
  within-each [] named = λ k d within. absurd (omega (arith, within))
  within-each (x ∷ xs) named =
      All-cons (λ (g : Graded). g.doc.0 < length names) (one x) (map one xs) (number-within names x (all_head (contains_text names) x xs named))
      (within-each xs (all_tail (contains_text names) x xs named))

-- each document of the trail is one of the names
pub grades-within : (H : History) (names : List Text) (topic : TopicFacts) → IsTopicOf H names topic → All (λ g. g.doc.0 < length names) topic.graded
grades-within H names topic is =
    subst (All (λ g. g.doc.0 < length names)) (sym is.labelled.graded_are) (within-each H names topic.id (trail H topic.id) is.labelled.trail_named)

pub qrels-same : (H : History) (names : List Text) (topic : TopicFacts) → GradedAreOnTrail → IsTopicOf H names topic
    → qrels_text topic.id names topic.graded ≡ qrels_lines H topic.id
qrels-same H names topic on_trail is =
    let id = topic.id in
    let docs = trail H id in
    let sort = sorts docs (trail-differs H id) in
    ap (qrels_text id names) is.labelled.graded_are
    ∙ ap (flat_map (qrels_line id names)) (sorted-same H names id docs is.labelled.trail_named (trail-differs H id))
    ∙ flat_map-map (qrels_line id names) (graded_in H names id) (sorted docs)
    ∙ lines-same H names id (sorted docs) (sort.all (contains_text names) is.labelled.trail_named)
    ∙ ap (flat_map (λ doc. qrel_line id doc (unwrap_or (effective H id doc) 0))) (graded-same H names id on_trail)
