-- The labels and grades of the topics of a history with one more label or ruling.
use Rattle.std.proofs.Common.{◌≡◌, ◌||◌, ◌&&◌, ◌≤◌, ℕ, Bool, true, false, not, List, ◌++◌, ◌∷◌, [], Option, None, Some, is_some, length, map, subst, arith, refl, sym, ap, ◌∙◌}
use Rattle.std.specs.Prelude.{◌==◌, if◌then◌else◌, nat_lt}
use Rattle.std.specs.List.{flat_map}
use Rattle.std.specs.Str.{bytes_eq}
use Rattle.std.proofs.lemmas.Bool.{eqb-true, or_parts, not-true, and_right, and_from, and_parts}
use Rattle.std.proofs.lemmas.List.Folds.{list_all-append}
use Rattle.std.proofs.lemmas.Slice.Eq.{bytes_eq-Decides}
use Rattle.decimal_rank.specs.Names.{with_name}
use Rattle.decimal_rank.specs.declared.naming.DocId.{DocId}
use Rattle.decimal_rank.proofs.TruthValues.{bytes_eq-swap}
use Rattle.decimal_rank.proofs.Lists.{all_head, all_tail}
use Rattle.labels.specs.declared.given.Given.{Given}
use Rattle.labels.specs.Grades.{effective_grade}
use Rattle.labels.specs.DocumentLabels.{grades_of, with_label}
use Rattle.labels.specs.LabelledDocuments.{LabelledDocument, effective_at, given_at, is_labelled_document, labelled_docs as marked_docs, ruling_at, with_label_at, with_ruling_at}
use Rattle.qrels_view.specs.Grades.{first_grade, with_grade}
use Rattle.qrels_view.specs.declared.grades.Graded.{Graded}
use Rattle.rulebook.specs.Words.{Text, contains_text, prefixes}
use Rattle.rulebook.specs.Campaign.{History, need}
use Rattle.rulebook.specs.Histories.Entries.{AreWithLabel, AreWithRuling}
use Rattle.rulebook.specs.Judgements.Grades.{Label, effective, graded_documents, is_label_on, is_labelled, labelled_documents, labels_on, last_ruling, trail}
use Rattle.rulebook.specs.Spelling.{differ}
use Rattle.campaign_core.specs.Assessments.TopicLabelling.{IsLabelled, graded_in}
use Rattle.campaign_core.specs.Numbering.Numbers.{are_named, doc_in, docs_in, names_of}
use Rattle.campaign_core.specs.Assessments.Topics.{LabelledTopic}
use Rattle.campaign_core.proofs.Entries.Judgements.LabelledDocs.{labelled-ruled, labelled-with}
use Rattle.campaign_core.proofs.NamedDocuments.LiveLeases.{same-number}
use Rattle.campaign_core.proofs.Numbers.DocNumbers.{number-within}
use Rattle.campaign_core.proofs.Lists.DistinctTexts.{differ-all}

-- what the labels of a topic's documents are after one more
abbrev pub GivenFollow : Type 0
GivenFollow = (doc other : DocId) (assessor : List ℕ) (grade : ℕ) (marked : List LabelledDocument)
    → given_at (with_label_at doc assessor grade marked) other
    ≡ (if other.0 == doc.0 then with_label assessor grade (given_at marked doc) else given_at marked other)

abbrev pub RulingsStay : Type 0
RulingsStay = (doc other : DocId) (assessor : List ℕ) (grade : ℕ) (marked : List LabelledDocument)
    → ruling_at (with_label_at doc assessor grade marked) other ≡ ruling_at marked other

pub trail-differs : (H : History) (topic : Text) → differ (trail H topic) ≡ true
trail-differs H topic = differ-all [] (flat_map (λ part. graded_documents part topic) (prefixes H)) refl

-- A grade along a trail.

module _ (H J : History) (topic doc : Text) (names : List Text) (doc_named : contains_text names doc ≡ true)
    (others : (other : Text) → bytes_eq doc other ≡ false → effective J topic other ≡ effective H topic other) where
  abbrev was : Text → Graded
  was = graded_in H names topic

  abbrev is_now : Text → Graded
  is_now = graded_in J names topic

  same-other : (other : Text) → bytes_eq doc other ≡ false → was other ≡ is_now other
  same-other other differs = ap (λ (o : Option ℕ). let g : Graded = record { doc = doc_in names other; grade = o } in g) (sym (others other differs))

  absent-stays : (docs : List Text) → contains_text docs doc ≡ false → map was docs ≡ map is_now docs
  absent-stays [] absent = refl
  absent-stays (x ∷ docs) absent =
      let both = or_parts (bytes_eq doc x) (contains_text docs doc) absent in
      ap (λ g. g ∷ map was docs) (same-other x both.0) ∙ ap (λ gs. is_now x ∷ gs) (absent-stays docs both.1)

  abbrev after : List Text → Option ℕ → List Text
  after docs grade = if is_some grade then with_name docs doc else docs

  no-first : (o : Option ℕ) → effective J topic doc ≡ o → first_grade (doc_in names doc) o ≡ map is_now (after [] o)
  no-first None is = refl
  no-first (Some g) is = ap (λ (o : Option ℕ). let x : Graded = record { doc = doc_in names doc; grade = o } in x ∷ []) (sym is)

  kept-in : (docs : List Text) (o : Option ℕ) → contains_text docs doc ≡ true → after docs o ≡ docs
  kept-in docs None there = refl
  kept-in docs (Some g) there = ap (λ t. if t then docs else docs ++ doc ∷ []) there

  cons-after : (x : Text) (docs : List Text) (o : Option ℕ) → bytes_eq doc x ≡ false → after (x ∷ docs) o ≡ x ∷ after docs o
  cons-after x docs None differs = refl
  cons-after x docs (Some g) differs =
      ap (λ t. if (t || contains_text docs doc) then x ∷ docs else x ∷ docs ++ doc ∷ []) differs ∙ step (contains_text docs doc)
    where
      step : (t : Bool) → (if t then x ∷ docs else x ∷ docs ++ doc ∷ []) ≡ x ∷ (if t then docs else docs ++ doc ∷ [])
      step true = refl
      step false = refl

  along : (docs : List Text) → are_named names docs ≡ true → differ docs ≡ true
      → with_grade (doc_in names doc) (effective J topic doc) (map was docs) ≡ map is_now (after docs (effective J topic doc))
  along [] named differs = no-first (effective J topic doc) refl
  along (x ∷ docs) named differs =
      let parts = and_parts (not (contains_text docs x)) (differ docs) differs in
      let test : ((doc_in names doc).0 == (doc_in names x).0) ≡ bytes_eq doc x =
      same-number names doc x doc_named (all_head (contains_text names) x docs named) in
      ap (λ t. if t then (let g : Graded = record { doc = doc_in names x; grade = effective J topic doc } in g)
      ∷ map was docs else was x ∷ with_grade (doc_in names doc) (effective J topic doc) (map was docs)) test
      ∙ step (bytes_eq doc x) refl (not-true (contains_text docs x) parts.0) (along docs (all_tail (contains_text names) x docs named) parts.1)
    where
      step : (t : Bool) → bytes_eq doc x ≡ t → contains_text docs x ≡ false
          → with_grade (doc_in names doc) (effective J topic doc) (map was docs) ≡ map is_now (after docs (effective J topic doc))
          → (if t then (let g : Graded = record { doc = doc_in names x; grade = effective J topic doc } in g)
          ∷ map was docs else was x ∷ with_grade (doc_in names doc) (effective J topic doc) (map was docs))
          ≡ map is_now (after (x ∷ docs) (effective J topic doc))
      step true same absent rest =
          let is : doc ≡ x = (bytes_eq-Decides doc x).0 same in
          let gone : contains_text docs doc ≡ false = ap (contains_text docs) is ∙ absent in
          let there : contains_text (x ∷ docs) doc ≡ true = ap (λ t. t || contains_text docs doc) same in
          ap (λ gs. (let g : Graded = record { doc = doc_in names x; grade = effective J topic doc } in g) ∷ gs) (absent-stays docs gone)
          ∙ ap (λ d. (let g : Graded = record { doc = doc_in names x; grade = effective J topic d } in g) ∷ map is_now docs) is
          ∙ sym (ap (map is_now) (kept-in (x ∷ docs) (effective J topic doc) there))
      step false same absent rest =
          ap (λ gs. was x ∷ gs) rest
          ∙ ap (λ g. g ∷ map is_now (after docs (effective J topic doc))) (same-other x same)
          ∙ sym (ap (map is_now) (cons-after x docs (effective J topic doc) same))

named-after : (names docs : List Text) (doc : Text) (t u : Bool) → contains_text docs doc ≡ u → contains_text names doc ≡ true → are_named names docs ≡ true
    → are_named names (if t then (if u then docs else docs ++ doc ∷ []) else docs) ≡ true
named-after names docs doc false u is there named = named
named-after names docs doc true true is there named = named
named-after names docs doc true false is there named = list_all-append (contains_text names) docs (doc ∷ []) ∙ and_from _ _ named (and_from _ _ there refl)

-- a topic whose labels, rulings and grades stay
unchanged : (H J : History) (t : LabelledTopic) → names_of J ≡ names_of H → ((doc : Text) → labels_on J t.id doc ≡ labels_on H t.id doc)
    → ((doc : Text) → last_ruling J t.id doc ≡ last_ruling H t.id doc)
    → ((doc : Text) → effective J t.id doc ≡ effective H t.id doc) → labelled_documents J t.id ≡ labelled_documents H t.id
    → trail J t.id ≡ trail H t.id → IsLabelled H (names_of H) t → IsLabelled J (names_of J) t
unchanged H J t names_are labels rulings grades labelled_stays trail_stays was =
    subst (λ ns. IsLabelled J ns t) (sym names_are) (record {
      given_are = λ doc named. was.given_are doc named ∙ sym (labels doc);
      rulings_are = λ doc named. was.rulings_are doc named ∙ sym (rulings doc);
      given_named = was.given_named;
      labels_named = λ doc absent. labels doc ∙ was.labels_named doc absent;
      ruled_named = was.ruled_named;
      rulings_named = λ doc absent. rulings doc ∙ was.rulings_named doc absent;
      marked_are = was.marked_are ∙ ap (docs_in (names_of H)) (sym labelled_stays);
      labelled_named = ap (are_named (names_of H)) labelled_stays ∙ was.labelled_named;
      graded_are = was.graded_are ∙ same-grades t.id grades (trail H t.id) ∙ ap (map (graded_in J (names_of H) t.id)) (sym trail_stays);
      trail_named = ap (are_named (names_of H)) trail_stays ∙ was.trail_named;
    })
  where
    same-grades : (topic : Text) → ((doc : Text) → effective J topic doc ≡ effective H topic doc) → (docs : List Text)
        → map (graded_in H (names_of H) topic) docs ≡ map (graded_in J (names_of H) topic) docs
    same-grades topic same [] = refl
    same-grades topic same (x ∷ docs) =
        ap (λ (o : Option ℕ). (let g : Graded = record { doc = doc_in (names_of H) x; grade = o } in g) ∷ map (graded_in H (names_of H) topic) docs)
        (sym (same x))
        ∙ ap (λ gs. graded_in J (names_of H) topic x ∷ gs) (same-grades topic same docs)

-- a topic in which one document may have another grade
regraded-here : (H J : History) (t : LabelledTopic) (marked : List LabelledDocument) (doc : Text)
    → ((topic : Text) → need J topic ≡ need H topic) → names_of J ≡ names_of H
    → contains_text (names_of H) doc ≡ true → IsLabelled H (names_of H) t
    → ((other : Text) → contains_text (names_of H) other ≡ true → given_at marked (doc_in (names_of H) other) ≡ labels_on J t.id other)
    → ((other : Text) → contains_text (names_of H) other ≡ true → ruling_at marked (doc_in (names_of H) other) ≡ last_ruling J t.id other)
    → ((other : DocId) → length (names_of H) ≤ other.0 → given_at marked other ≡ [])
    → ((other : Text) → contains_text (names_of H) other ≡ false → labels_on J t.id other ≡ [])
    → ((other : DocId) → length (names_of H) ≤ other.0 → ruling_at marked other ≡ None)
    → ((other : Text) → contains_text (names_of H) other ≡ false → last_ruling J t.id other ≡ None)
    → marked_docs marked ≡ docs_in (names_of H) (labelled_documents J t.id) → are_named (names_of H) (labelled_documents J t.id) ≡ true
    → trail J t.id ≡ (if is_some (effective J t.id doc) then with_name (trail H t.id) doc else trail H t.id)
    → ((other : Text) → bytes_eq doc other ≡ false → effective J t.id other ≡ effective H t.id other)
    → IsLabelled J (names_of J)
    (record {
      id = t.id;
      marked = marked;
      graded = with_grade (doc_in (names_of H) doc)
          (effective_at (need H t.id) marked (doc_in (names_of H) doc)) t.graded;
    })
regraded-here H J t marked doc needs names_are doc_named was given rulings past none past_ruled none_ruled docs_are docs_named trail_is others =
    let names = names_of H in
    let d : DocId = doc_in names doc in
    let grade : effective_at (need H t.id) marked d ≡ effective J t.id doc =
    ap (λ (gs : List Given). effective_grade (need H t.id) (grades_of gs) (ruling_at marked d)) (given doc doc_named)
    ∙ ap (effective_grade (need H t.id) (grades_of (labels_on J t.id doc))) (rulings doc doc_named)
    ∙ ap (λ n. effective_grade n (grades_of (labels_on J t.id doc)) (last_ruling J t.id doc)) (sym (needs t.id)) in
    subst (λ ns. IsLabelled J ns (record { id = t.id; marked = marked; graded = with_grade d (effective_at (need H t.id) marked d) t.graded }))
    (sym names_are) (record {
      given_are = given;
      rulings_are = rulings;
      given_named = past;
      labels_named = none;
      ruled_named = past_ruled;
      rulings_named = none_ruled;
      marked_are = docs_are;
      labelled_named = docs_named;
      graded_are = ap (λ (o : Option ℕ). with_grade d o t.graded) grade
          ∙ ap (with_grade d (effective J t.id doc)) was.graded_are
          ∙ along H J t.id doc names doc_named others (trail H t.id) was.trail_named (trail-differs H t.id)
          ∙ ap (map (graded_in J names t.id)) (sym trail_is);
      trail_named = ap (are_named names) trail_is
          ∙ named-after names (trail H t.id) doc (is_some (effective J t.id doc)) (contains_text (trail H t.id) doc) refl doc_named was.trail_named;
    })

-- a name that isn't there is another than one that is
pub other-name : (names : List Text) (a b : Text) → contains_text names a ≡ true → contains_text names b ≡ false → bytes_eq a b ≡ false
other-name names a b there absent = step (bytes_eq a b) refl
  where
    step : (t : Bool) → bytes_eq a b ≡ t → t ≡ false
    step true same = let both : contains_text names b ≡ true = ap (contains_text names) (sym ((bytes_eq-Decides a b).0 same)) ∙ there in cc (both, absent)
    step false same = refl

-- a number past the names is another than that of a name
past-other : (names : List Text) (doc : Text) (other : DocId) → contains_text names doc ≡ true
    → length names ≤ other.0 → (other.0 == (doc_in names doc).0) ≡ false
past-other names doc other there past = step (other.0 == (doc_in names doc).0) refl
  where
    step : (t : Bool) → (other.0 == (doc_in names doc).0) ≡ t → t ≡ false
    step true same = absurd (omega (arith, past, number-within names doc there, eqb-true other.0 (doc_in names doc).0 same))
    step false same = refl

module _ (given_follow : GivenFollow) (rulings_stay : RulingsStay) (H J : History) (label : Label) (joined : AreWithLabel H J label)
    (needs : (topic : Text) → need J topic ≡ need H topic) (names_are : names_of J ≡ names_of H) where
  -- the topic of the label
  pub labelled-here : (t : LabelledTopic) → t.id ≡ label.topic → contains_text (names_of H) label.doc ≡ true → IsLabelled H (names_of H) t
      → (let marked : List LabelledDocument = with_label_at (doc_in (names_of H) label.doc) label.assessor label.grade t.marked in
      IsLabelled J (names_of J)
      (record {
        id = t.id;
        marked = marked;
        graded = with_grade (doc_in (names_of H) label.doc)
            (effective_at (need H t.id) marked (doc_in (names_of H) label.doc)) t.graded;
      }))
  labelled-here t ids doc_named was =
      let names = names_of H in
      let d : DocId = doc_in names label.doc in
      let marked : List LabelledDocument = with_label_at d label.assessor label.grade t.marked in
      let here : bytes_eq label.topic t.id ≡ true = (bytes_eq-Decides label.topic t.id).1 (sym ids) in
      let listed : labelled_documents J t.id ≡ with_name (labelled_documents H t.id) label.doc =
      subst (λ topic. labelled_documents J topic ≡ with_name (labelled_documents H topic) label.doc) (sym ids) joined.labelled_are in
      let given : (doc : Text) → contains_text names doc ≡ true → given_at marked (doc_in names doc) ≡ labels_on J t.id doc = λ doc named.
      given_follow d (doc_in names doc) label.assessor label.grade t.marked
      ∙ ap (λ b. if b then with_label label.assessor label.grade (given_at t.marked d) else given_at t.marked (doc_in names doc))
      (same-number names doc label.doc named doc_named ∙ bytes_eq-swap doc label.doc)
      ∙ choose doc (bytes_eq label.doc doc) refl (was.given_are doc named) (was.given_are label.doc doc_named)
      ∙ ap (λ b. if (b && bytes_eq label.doc doc) then with_label label.assessor label.grade (labels_on H t.id doc) else labels_on H t.id doc) (sym here)
      ∙ sym (joined.labels_are t.id doc) in
      regraded-here H J t marked label.doc needs names_are doc_named was given
      (λ doc named. rulings_stay d (doc_in names doc) label.assessor label.grade t.marked ∙ was.rulings_are doc named ∙ sym (joined.rulings_are t.id doc))
      (λ other past.
      given_follow d other label.assessor label.grade t.marked
      ∙ ap (λ b. if b then with_label label.assessor label.grade (given_at t.marked d) else given_at t.marked other)
      (past-other names label.doc other doc_named past)
      ∙ was.given_named other past)
      (λ doc absent. joined.labels_are t.id doc
      ∙ ap (λ b. if b then with_label label.assessor label.grade (labels_on H t.id doc) else labels_on H t.id doc)
      (and_right (bytes_eq label.topic t.id) (bytes_eq label.doc doc) (other-name names label.doc doc doc_named absent))
      ∙ was.labels_named doc absent)
      (λ other past. rulings_stay d other label.assessor label.grade t.marked ∙ was.ruled_named other past)
      (λ doc absent. joined.rulings_are t.id doc ∙ was.rulings_named doc absent)
      (labelled-with names label.doc label.assessor label.grade doc_named (labelled_documents H t.id) t.marked was.labelled_named was.marked_are
      ∙ ap (docs_in names) (sym listed))
      (ap (are_named names) listed
      ∙ named-after names (labelled_documents H t.id) label.doc true (contains_text (labelled_documents H t.id) label.doc) refl doc_named was.labelled_named)
      (subst (λ topic. trail J topic ≡ (if is_some (effective J topic label.doc) then with_name (trail H topic) label.doc else trail H topic))
      (sym ids) joined.trail_is)
      (λ other differs. joined.effective_is t.id other (and_right (bytes_eq label.topic t.id) (bytes_eq label.doc other) differs))
    where
      choose : (doc : Text) (b : Bool) → bytes_eq label.doc doc ≡ b → given_at t.marked (doc_in (names_of H) doc) ≡ labels_on H t.id doc
          → given_at t.marked (doc_in (names_of H) label.doc) ≡ labels_on H t.id label.doc
          → (if b then with_label label.assessor label.grade (given_at t.marked (doc_in (names_of H) label.doc)) else given_at t.marked
          (doc_in (names_of H) doc))
          ≡ (if b then with_label label.assessor label.grade (labels_on H t.id doc) else labels_on H t.id doc)
      choose doc true same this that =
          let is : label.doc ≡ doc = (bytes_eq-Decides label.doc doc).0 same in
          ap (with_label label.assessor label.grade) (that ∙ ap (labels_on H t.id) is)
      choose doc false same this that = this

  -- another topic
  pub labelled-elsewhere : (t : LabelledTopic) → bytes_eq label.topic t.id ≡ false → IsLabelled H (names_of H) t → IsLabelled J (names_of J) t
  labelled-elsewhere t differs was =
      let off : (doc : Text) → is_label_on t.id doc label ≡ false = λ doc. ap (λ b. b && bytes_eq label.doc doc) differs in
      unchanged H J t names_are
      (λ doc. joined.labels_are t.id doc ∙ ap (λ b. if b then with_label label.assessor label.grade (labels_on H t.id doc) else labels_on H t.id doc) (off doc))
      (joined.rulings_are t.id) (λ doc. joined.effective_is t.id doc (off doc)) (joined.other_labelled t.id differs) (joined.other_trails t.id differs) was

-- Rulings

abbrev pub RulingsFollow : Type 0
RulingsFollow = (doc other : DocId) (grade : ℕ) (marked : List LabelledDocument)
    → ruling_at (with_ruling_at doc grade marked) other ≡ (if (other.0 == doc.0) && is_labelled_document marked doc then Some grade else ruling_at marked other)

abbrev pub GivenStay : Type 0
GivenStay = (doc other : DocId) (grade : ℕ) (marked : List LabelledDocument) → given_at (with_ruling_at doc grade marked) other ≡ given_at marked other

module _ (rulings_follow : RulingsFollow) (given_stay : GivenStay) (H J : History) (topic doc : Text) (grade : ℕ) (ruled : AreWithRuling H J topic doc grade)
    (needs : (topic : Text) → need J topic ≡ need H topic) (names_are : names_of J ≡ names_of H) where
  -- the topic of the ruling
  pub ruled-here : (t : LabelledTopic) → t.id ≡ topic → contains_text (names_of H) doc ≡ true
      → is_labelled_document t.marked (doc_in (names_of H) doc) ≡ true → IsLabelled H (names_of H) t
      → (let marked : List LabelledDocument = with_ruling_at (doc_in (names_of H) doc) grade t.marked in
      IsLabelled J (names_of J)
      (record {
        id = t.id;
        marked = marked;
        graded = with_grade (doc_in (names_of H) doc)
            (effective_at (need H t.id) marked (doc_in (names_of H) doc)) t.graded;
      }))
  ruled-here t ids doc_named marked_there was =
      let names = names_of H in
      let d : DocId = doc_in names doc in
      let marked : List LabelledDocument = with_ruling_at d grade t.marked in
      let here : bytes_eq topic t.id ≡ true = (bytes_eq-Decides topic t.id).1 (sym ids) in
      let rulings : (other : Text) → contains_text names other ≡ true → ruling_at marked (doc_in names other) ≡ last_ruling J t.id other = λ other named.
      rulings_follow d (doc_in names other) grade t.marked
      ∙ ap (λ b. if (b && is_labelled_document t.marked d) then Some grade else ruling_at t.marked (doc_in names other))
      (same-number names other doc named doc_named ∙ bytes_eq-swap other doc)
      ∙ ap (λ b. if (bytes_eq doc other && b) then Some grade else ruling_at t.marked (doc_in names other)) marked_there
      ∙ both other (bytes_eq doc other)
      ∙ ap (λ (r : Option ℕ). if bytes_eq doc other then Some grade else r) (was.rulings_are other named)
      ∙ ap (λ b. if (b && bytes_eq doc other) then Some grade else last_ruling H t.id other) (sym here)
      ∙ sym (ruled.rulings_are t.id other) in
      regraded-here H J t marked doc needs names_are doc_named was
      (λ other named. given_stay d (doc_in names other) grade t.marked ∙ was.given_are other named ∙ sym (ruled.labels_are t.id other))
      rulings (λ other past. given_stay d other grade t.marked ∙ was.given_named other past)
      (λ other absent. ruled.labels_are t.id other ∙ was.labels_named other absent)
      (λ other past. rulings_follow d other grade t.marked
      ∙ ap (λ b. if (b && is_labelled_document t.marked d) then Some grade else ruling_at t.marked other) (past-other names doc other doc_named past)
      ∙ was.ruled_named other past)
      (λ other absent. ruled.rulings_are t.id other
      ∙ ap (λ b. if b then Some grade else last_ruling H t.id other)
      (and_right (bytes_eq topic t.id) (bytes_eq doc other) (other-name names doc other doc_named absent))
      ∙ was.rulings_named other absent)
      (labelled-ruled d grade t.marked ∙ was.marked_are ∙ ap (docs_in names) (sym (ruled.labelled_are t.id)))
      (ap (are_named names) (ruled.labelled_are t.id) ∙ was.labelled_named)
      (subst (λ topic. trail J topic ≡ (if is_some (effective J topic doc) then with_name (trail H topic) doc else trail H topic)) (sym ids) ruled.trail_is)
      (λ other differs. ruled.effective_is t.id other (and_right (bytes_eq topic t.id) (bytes_eq doc other) differs))
    where
      both : (other : Text) (b : Bool) → (if (b && true) then Some grade else ruling_at t.marked (doc_in (names_of H) other))
          ≡ (if b then Some grade else ruling_at t.marked (doc_in (names_of H) other))
      both other true = refl
      both other false = refl

  pub ruled-elsewhere : (t : LabelledTopic) → bytes_eq topic t.id ≡ false → IsLabelled H (names_of H) t → IsLabelled J (names_of J) t
  ruled-elsewhere t differs was =
      let off : (other : Text) → (bytes_eq topic t.id && bytes_eq doc other) ≡ false = λ other. ap (λ b. b && bytes_eq doc other) differs in
      unchanged H J t names_are (ruled.labels_are t.id)
      (λ other. ruled.rulings_are t.id other ∙ ap (λ b. if b then Some grade else last_ruling H t.id other) (off other))
      (λ other. ruled.effective_is t.id other (off other)) (ruled.labelled_are t.id) (ruled.other_trails t.id differs) was

-- a document with a label is marked
marked-from : (marked : List LabelledDocument) (doc : DocId) → nat_lt 0 (length (given_at marked doc)) ≡ true → is_labelled_document marked doc ≡ true
marked-from [] doc some = cc some
marked-from (x ∷ marked) doc some = step (doc.0 == x.doc.0) refl some (marked-from marked doc)
  where
    step : (t : Bool) → (doc.0 == x.doc.0) ≡ t → nat_lt 0 (length (if t then x.given else given_at marked doc)) ≡ true
        → (nat_lt 0 (length (given_at marked doc)) ≡ true → is_labelled_document marked doc ≡ true)
        → ((doc.0 == x.doc.0) || is_labelled_document marked doc) ≡ true
    step true is some rest = ap (λ t. t || is_labelled_document marked doc) is
    step false is some rest = ap (λ t. t || is_labelled_document marked doc) is ∙ rest some

pub marked-there : (H : History) (t : LabelledTopic) (doc : Text) → IsLabelled H (names_of H) t → contains_text (names_of H) doc ≡ true
    → is_labelled H t.id doc ≡ true → is_labelled_document t.marked (doc_in (names_of H) doc) ≡ true
marked-there H t doc was named some =
    marked-from t.marked (doc_in (names_of H) doc) (ap (λ (gs : List Given). nat_lt 0 (length gs)) (was.given_are doc named) ∙ some)
