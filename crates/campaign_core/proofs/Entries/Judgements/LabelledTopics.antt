-- The labels of all topics once an entry joined the history.
use Rattle.std.proofs.Common.{◌≡◌, ◌≢◌, ◌<◌, ◌+◌, ℕ, suc, zero, Bool, true, false, List, ◌++◌, ◌∷◌, [], None, length, map, get_or, set, subst, arith, refl, sym, ap, ◌∙◌}
use Rattle.std.specs.Prelude.{All}
use Rattle.std.specs.List.{filter_map}
use Rattle.std.proofs.lemmas.List.{append-nil, length-map}
use Rattle.std.proofs.lemmas.List.Elements.{filter_map-append, All-cons}
use Rattle.std.proofs.lemmas.Slice.Eq.{bytes_eq-Decides}
use Rattle.std.specs.Str.{bytes_eq}
use Rattle.decimal_rank.specs.declared.naming.DocId.{DocId}
use Rattle.decimal_rank.proofs.Lists.{map-map}
use Rattle.labels.specs.LabelledDocuments.{LabelledDocument, effective_at, is_labelled_document, with_label_at, with_ruling_at}
use Rattle.qrels_view.specs.Grades.{with_grade}
use Rattle.trec_formats.specs.declared.Topic.{Topic}
use Rattle.rulebook.specs.declared.entry.Entry.{Entry}
use Rattle.rulebook.specs.Words.{Text, contains_text}
use Rattle.rulebook.specs.Campaign.{History, need, topics}
use Rattle.rulebook.specs.Histories.Entries.{AreKept, AreWithLabel, AreWithRuling}
use Rattle.rulebook.specs.Judgements.Grades.{Label, given_labels, is_labelled, label_of}
use Rattle.rulebook.specs.Judgements.Leases.{leases}
use Rattle.campaign_core.specs.CampaignStates.{HasFewLabels, IsKnown, IsUnjudged}
use Rattle.campaign_core.specs.Assessments.TopicLabelling.{IsLabelled}
use Rattle.campaign_core.specs.Assessments.DeskLeases.{topic_in}
use Rattle.campaign_core.specs.Numbering.Numbers.{doc_in, names_of}
use Rattle.campaign_core.specs.Assessments.Topics.{KeptTopic, LabelledTopic, kept_topic, kept_topic_of, labelled_of, topic_ids, unlabelled_topic}
use Rattle.campaign_core.specs.declared.campaign.Campaign.{Campaign}
use Rattle.assessment.specs.Changes.{facts}
use Rattle.assessment.specs.TopicFacts.{TopicFacts, topic_with_label, with_ruling}
use Rattle.campaign_core.proofs.Entries.Judgements.LabelSteps.{labelled-elsewhere, labelled-here, marked-there, ruled-elsewhere, ruled-here}
use Rattle.campaign_core.proofs.Entries.Judgements.LabelCounts.{few-here, few-more, few-ruled}
use Rattle.campaign_core.proofs.Lists.Elements.{get-map}
use Rattle.campaign_core.proofs.Entries.Preparations.FittingChanges.{as-many, some-topic, topic-at, within-topics}
use Rattle.campaign_core.proofs.Numbers.TopicIds.{state-ids}
use Rattle.campaign_core.proofs.Numbers.DocNumbers.{docno-back}
use Rattle.campaign_core.proofs.Entries.Judgements.QuietEntries.{labelled-none, labelled-stays, unjudged-stays}
use Rattle.campaign_core.proofs.Numbers.NumberedDocs.{first-place}
use Rattle.campaign_core.proofs.Entries.EntryLaws.{Laws}

-- the topics that are kept
abbrev pub topics_of : Campaign → List TopicFacts
topics_of s = (facts s.assessment).topics.topics

pub all-few : (n : ℕ) (ts : List LabelledTopic) → All (HasFewLabels n) ts → All (HasFewLabels (n + 1)) ts
all-few n ts all k d within = few-more n (get_or ts k d) (all k d within)

pub labels-none : (H : History) (e : Entry) → label_of e ≡ None → given_labels (H ++ e ∷ []) ≡ given_labels H
labels-none H e none =
    let one : filter_map label_of (e ∷ []) ≡ [] = rw none refl in
    filter_map-append label_of H (e ∷ []) ∙ ap (λ ls. given_labels H ++ ls) one ∙ append-nil (given_labels H)

id-at : (ts : List LabelledTopic) (ids : List Text) (k : ℕ) (d : LabelledTopic) → map (λ (t : LabelledTopic). t.id) ts ≡ ids
    → k < length ts → (get_or ts k d).id ≡ get_or ids k []
id-at [] ids k d same within = absurd (omega (arith, within))
id-at (t ∷ ts) [] k d same within = cc same
id-at (t ∷ ts) (id ∷ ids) zero d same within = let head : t.id ≡ id = cc same in head
id-at (t ∷ ts) (id ∷ ids) (suc k) d same within =
    id-at ts ids k d (let rest : map (λ (t : LabelledTopic). t.id) ts ≡ ids = cc same in rest) (omega (arith, within))

all-set-at : {X : Type 0} (P : X → Type 0) (xs : List X) (i : ℕ) (y : X) → P y
    → ((k : ℕ) (d : X) → k < length xs → k ≢ i → P (get_or xs k d)) → All P (set xs i y)
all-set-at P [] i y here others = λ k d within. absurd (omega (arith, within))
all-set-at P (x ∷ xs) zero y here others = All-cons P y xs here (λ k d within. others (suc k) d (omega (arith, within)) (λ e. absurd (omega (arith, e))))
all-set-at P (x ∷ xs) (suc i) y here others =
    All-cons P x (set xs i y) (others 0 x (omega arith) (λ e. absurd (omega (arith, e))))
    (all-set-at P xs i y here (λ k d within differs. others (suc k) d (omega (arith, within)) (λ e. differs (omega (arith, e)))))

pub same-labels : (s : Campaign) (e : Entry) (after : List LabelledTopic) → IsKnown s → AreKept s.history.items (s.history.items ++ e ∷ [])
    → names_of (s.history.items ++ e ∷ []) ≡ names_of s.history.items → after ≡ map labelled_of (topics_of s)
    → All (IsLabelled (s.history.items ++ e ∷ []) (names_of (s.history.items ++ e ∷ []))) after
same-labels s e after kept_s keeps names_are is = subst (All (IsLabelled (s.history.items ++ e ∷ []) (names_of (s.history.items ++ e ∷ [])))) (sym is)
    (λ k d within. labelled-stays s.history.items (s.history.items ++ e ∷ []) (get_or (map labelled_of (topics_of s)) k d) keeps names_are
    (kept_s.assessed.knows.labels_are k d within))

-- a topic that is unjudged before and after
pub fresh-labels : (s : Campaign) (e : Entry) (after : List LabelledTopic) → AreKept s.history.items (s.history.items ++ e ∷ [])
    → given_labels (s.history.items ++ e ∷ []) ≡ given_labels s.history.items → leases (s.history.items ++ e ∷ []) ≡ leases s.history.items
    → IsUnjudged s.history.items (map labelled_of (topics_of s)) → All (λ (t : LabelledTopic). t.marked ≡ []) after
    → All (λ (t : LabelledTopic). t.graded ≡ []) after
    → All (IsLabelled (s.history.items ++ e ∷ []) (names_of (s.history.items ++ e ∷ []))) after
fresh-labels s e after keeps labels_are leases_are none no_mark no_grade k d within =
    let later = unjudged-stays s.history.items (s.history.items ++ e ∷ []) (map labelled_of (topics_of s)) keeps labels_are leases_are none in
    labelled-none (s.history.items ++ e ∷ []) (get_or after k d) later.no_label later.no_ruling later.no_trail (no_mark k d within) (no_grade k d within)

-- the labels of all topics after one of them has changed
topic-after : (s : Campaign) (e : Entry) (id : Text) (number : ℕ) (new : TopicFacts → LabelledTopic) → IsKnown s
    → number ≡ topic_in (topic_ids s.history.items) id → contains_text (topic_ids s.history.items) id ≡ true
    → ((t : TopicFacts) → t.id ≡ id → t.need ≡ need s.history.items t.id → IsLabelled s.history.items (names_of s.history.items) (labelled_of t)
    → IsLabelled (s.history.items ++ e ∷ []) (names_of (s.history.items ++ e ∷ [])) (new t))
    → ((t : LabelledTopic) → bytes_eq id t.id ≡ false → IsLabelled s.history.items (names_of s.history.items) t
    → IsLabelled (s.history.items ++ e ∷ []) (names_of (s.history.items ++ e ∷ [])) t)
    → ((t : TopicFacts) → HasFewLabels (length s.history.items) (labelled_of t) → HasFewLabels (length s.history.items + 1) (new t))
    → ((after : List LabelledTopic) → ((d : TopicFacts) → after ≡ set (map labelled_of (topics_of s)) number (new (get_or (topics_of s) number d)))
    → All (IsLabelled (s.history.items ++ e ∷ []) (names_of (s.history.items ++ e ∷ []))) after)
    × ((after : List LabelledTopic) → ((d : TopicFacts) → after ≡ set (map labelled_of (topics_of s)) number (new (get_or (topics_of s) number d)))
    → All (HasFewLabels (length s.history.items + 1)) after)
topic-after s e id number new kept_s number_is listed here_is elsewhere_is few_is =
    let H = s.history.items in
    let J : History = H ++ e ∷ [] in
    let ids = topic_ids H in
    let ts = map labelled_of (topics_of s) in
    let ids_are : map (λ (t : LabelledTopic). t.id) ts ≡ ids =
    map-map (λ (t : LabelledTopic). t.id) labelled_of (topics_of s) ∙ state-ids H (topics_of s) ids kept_s.assessed.knows.topics_are in
    let within : number < length (topics_of s) = within-topics s.history.items (facts s.assessment) kept_s.assessed number id number_is listed in
    let d : TopicFacts = some-topic (topics_of s) number within in
    let T : TopicFacts = get_or (topics_of s) number d in
    let at : kept_topic T ≡ kept_topic_of H (get_or ids number []) = topic-at H (topics_of s) ids number d kept_s.assessed.knows.topics_are within in
    let id_is : get_or ids number [] ≡ id = ap (λ n. get_or ids n []) number_is ∙ docno-back ids id listed in
    let T_need : T.need ≡ need H T.id = ap (λ (k : KeptTopic). k.labels_needed) at ∙ ap (need H) (sym (ap (λ (k : KeptTopic). k.id) at)) in
    let long : length ts ≡ length (topics_of s) = length-map (topics_of s) labelled_of in
    let seen_at : get_or ts number (labelled_of d) ≡ labelled_of T = get-map labelled_of (topics_of s) number d in
    let before : IsLabelled H (names_of H) (labelled_of T) =
    subst (IsLabelled H (names_of H)) seen_at (kept_s.assessed.knows.labels_are number (labelled_of d) (omega (arith, within, long))) in
    let few_before : HasFewLabels (length H) (labelled_of T) =
    subst (HasFewLabels (length H)) seen_at (kept_s.assessed.few number (labelled_of d) (omega (arith, within, long))) in
    let elsewhere : (k : ℕ) (x : LabelledTopic) → k < length ts → k ≢ number → IsLabelled J (names_of J) (get_or ts k x) = λ k x inner differs.
    let there : (get_or ts k x).id ≡ get_or ids k [] = id-at ts ids k x ids_are inner in
    let place : topic_in ids (get_or ids k []) ≡ k =
    first-place ids k kept_s.assessed.knows.topics_differ (omega (arith, inner, long, as-many H (topics_of s) ids kept_s.assessed.knows.topics_are)) in
    let other : bytes_eq id (get_or ts k x).id ≡ false =
    apart (bytes_eq id (get_or ts k x).id) id (get_or ts k x).id refl k number ids number_is (ap (topic_in ids) there ∙ place) differs in
    elsewhere_is (get_or ts k x) other (kept_s.assessed.knows.labels_are k x inner) in (
      (λ after after_is. subst (All (IsLabelled J (names_of J))) (sym (after_is d))
          (all-set-at (IsLabelled J (names_of J)) ts number (new T) (here_is T (ap (λ (k : KeptTopic). k.id) at ∙ id_is) T_need before) elsewhere)),
      (λ after after_is. subst (All (HasFewLabels (length H + 1))) (sym (after_is d))
          (all-set-at (HasFewLabels (length H + 1)) ts number (new T) (few_is T few_before)
          (λ k x inner differs. few-more (length H) (get_or ts k x) (kept_s.assessed.few k x inner)))),
    )
  where
    apart : (t : Bool) → (a b : Text) → bytes_eq a b ≡ t → (k i : ℕ) (ids : List Text) → i ≡ topic_in ids a → topic_in ids b ≡ k → k ≢ i → t ≡ false
    apart true a b same k i ids this that differs = absurd (differs (sym that ∙ ap (topic_in ids) (sym ((bytes_eq-Decides a b).0 same)) ∙ sym this))
    apart false a b same k i ids this that differs = refl

-- the labels after one more
pub label-after : (laws : Laws) (s : Campaign) (e : Entry) (label : Label) (topic : ℕ) (doc : DocId) (assessor : Text)
    → IsKnown s → AreWithLabel s.history.items (s.history.items ++ e ∷ []) label
    → ((id : Text) → need (s.history.items ++ e ∷ []) id ≡ need s.history.items id) → names_of (s.history.items ++ e ∷ []) ≡ names_of s.history.items
    → topic ≡ topic_in (topic_ids s.history.items) label.topic → doc ≡ doc_in (names_of s.history.items) label.doc → assessor ≡ label.assessor
    → contains_text (names_of s.history.items) label.doc ≡ true → contains_text (topic_ids s.history.items) label.topic ≡ true
    → ((after : List LabelledTopic)
    → ((d : TopicFacts)
    → after ≡ set (map labelled_of (topics_of s)) topic (labelled_of (topic_with_label doc assessor label.grade (get_or (topics_of s) topic d))))
    → All (IsLabelled (s.history.items ++ e ∷ []) (names_of (s.history.items ++ e ∷ []))) after)
    × ((after : List LabelledTopic)
    → ((d : TopicFacts)
    → after ≡ set (map labelled_of (topics_of s)) topic (labelled_of (topic_with_label doc assessor label.grade (get_or (topics_of s) topic d))))
    → All (HasFewLabels (length s.history.items + 1)) after)
label-after laws s e label topic doc assessor kept_s joined needs names_are topic_is doc_is assessor_is doc_named listed =
    let H = s.history.items in
    let J : History = H ++ e ∷ [] in
    topic-after s e label.topic topic (λ t. labelled_of (topic_with_label doc assessor label.grade t)) kept_s topic_is listed
    (λ T T_id T_need before.
    subst (λ (n : ℕ). IsLabelled J (names_of J) (let marked : List LabelledDocument = with_label_at doc assessor label.grade T.marked in
    record { id = T.id; marked = marked; graded = with_grade doc (effective_at n marked doc) T.graded })) (sym T_need)
    (subst (λ (a : Text). IsLabelled J (names_of J) (let marked : List LabelledDocument = with_label_at doc a label.grade T.marked in
    record { id = T.id; marked = marked; graded = with_grade doc (effective_at (need H T.id) marked doc) T.graded })) (sym assessor_is)
    (subst (λ (x : DocId). IsLabelled J (names_of J) (let marked : List LabelledDocument = with_label_at x label.assessor label.grade T.marked in
    record { id = T.id; marked = marked; graded = with_grade x (effective_at (need H T.id) marked x) T.graded })) (sym doc_is)
    (labelled-here laws.given_follow laws.rulings_stay H J label joined needs names_are (labelled_of T) T_id doc_named before))))
    (λ t differs was. labelled-elsewhere laws.given_follow laws.rulings_stay H J label joined needs names_are t differs was)
    (λ T few. few-here laws.given_follow (length H) (labelled_of T) doc assessor label.grade
    (effective_at T.need (with_label_at doc assessor label.grade T.marked) doc) few)

-- the labels after a ruling
pub ruling-after : (laws : Laws) (s : Campaign) (e : Entry) (id docno : Text) (topic : ℕ) (doc : DocId) (grade : ℕ) → IsKnown s
    → AreWithRuling s.history.items (s.history.items ++ e ∷ []) id docno grade
    → ((id : Text) → need (s.history.items ++ e ∷ []) id ≡ need s.history.items id) → names_of (s.history.items ++ e ∷ []) ≡ names_of s.history.items
    → topic ≡ topic_in (topic_ids s.history.items) id → doc ≡ doc_in (names_of s.history.items) docno
    → contains_text (names_of s.history.items) docno ≡ true → contains_text (topic_ids s.history.items) id ≡ true
    → is_labelled s.history.items id docno ≡ true
    → ((after : List LabelledTopic)
    → ((d : TopicFacts) → after ≡ set (map labelled_of (topics_of s)) topic (labelled_of (with_ruling doc grade (get_or (topics_of s) topic d))))
    → All (IsLabelled (s.history.items ++ e ∷ []) (names_of (s.history.items ++ e ∷ []))) after)
    × ((after : List LabelledTopic)
    → ((d : TopicFacts) → after ≡ set (map labelled_of (topics_of s)) topic (labelled_of (with_ruling doc grade (get_or (topics_of s) topic d))))
    → All (HasFewLabels (length s.history.items + 1)) after)
ruling-after laws s e id docno topic doc grade kept_s ruled needs names_are topic_is doc_is doc_named listed has_label =
    let H = s.history.items in
    let J : History = H ++ e ∷ [] in
    topic-after s e id topic (λ t. labelled_of (with_ruling doc grade t)) kept_s topic_is listed
    (λ T T_id T_need before.
    let marked_there : is_labelled_document T.marked (doc_in (names_of H) docno) ≡ true =
    marked-there H (labelled_of T) docno before doc_named (ap (λ i. is_labelled H i docno) T_id ∙ has_label) in
    subst (λ (n : ℕ). IsLabelled J (names_of J) (let marked : List LabelledDocument = with_ruling_at doc grade T.marked in
    record { id = T.id; marked = marked; graded = with_grade doc (effective_at n marked doc) T.graded })) (sym T_need)
    (subst (λ (x : DocId). IsLabelled J (names_of J) (let marked : List LabelledDocument = with_ruling_at x grade T.marked in
    record { id = T.id; marked = marked; graded = with_grade x (effective_at (need H T.id) marked x) T.graded })) (sym doc_is)
    (ruled-here laws.rulings_follow laws.given_stay H J id docno grade ruled needs names_are (labelled_of T) T_id doc_named marked_there before)))
    (λ t differs was. ruled-elsewhere laws.rulings_follow laws.given_stay H J id docno grade ruled needs names_are t differs was)
    (λ T few. few-ruled laws.given_stay (length H) (labelled_of T) doc grade (effective_at T.need (with_ruling_at doc grade T.marked) doc) few)

pub fresh-after : (s : Campaign) (e : Entry) (after : List LabelledTopic) → AreKept s.history.items (s.history.items ++ e ∷ [])
    → given_labels (s.history.items ++ e ∷ []) ≡ given_labels s.history.items → leases (s.history.items ++ e ∷ []) ≡ leases s.history.items
    → IsUnjudged s.history.items (map labelled_of (topics_of s)) → All (λ (t : LabelledTopic). t.marked ≡ []) after
    → IsUnjudged (s.history.items ++ e ∷ []) after
fresh-after s e after keeps labels_are leases_are none no_mark =
    let later = unjudged-stays s.history.items (s.history.items ++ e ∷ []) (map labelled_of (topics_of s)) keeps labels_are leases_are none in
    record { no_lease = later.no_lease; no_label = later.no_label; no_ruling = later.no_ruling; no_trail = later.no_trail; no_mark = no_mark }

pub new-marks : (given : List Topic) → All (λ (t : LabelledTopic). t.marked ≡ []) (map (λ (topic : Topic). unlabelled_topic topic.id) given)
new-marks [] = λ k d within. absurd (omega (arith, within))
new-marks (t ∷ given) =
    All-cons (λ (t : LabelledTopic). t.marked ≡ []) (unlabelled_topic t.id) (map (λ (topic : Topic). unlabelled_topic topic.id) given) refl (new-marks given)

pub new-grades : (given : List Topic) → All (λ (t : LabelledTopic). t.graded ≡ []) (map (λ (topic : Topic). unlabelled_topic topic.id) given)
new-grades [] = λ k d within. absurd (omega (arith, within))
new-grades (t ∷ given) =
    All-cons (λ (t : LabelledTopic). t.graded ≡ []) (unlabelled_topic t.id)
    (map (λ (topic : Topic). unlabelled_topic topic.id) given) refl (new-grades given)

pub new-few : (n : ℕ) (given : List Topic) → All (HasFewLabels n) (map (λ (topic : Topic). unlabelled_topic topic.id) given)
new-few n [] = λ k d within. absurd (omega (arith, within))
new-few n (t ∷ given) =
    All-cons (HasFewLabels n) (unlabelled_topic t.id) (map (λ (topic : Topic). unlabelled_topic topic.id) given)
    (record { few_labels = λ doc. omega arith; few_grades = omega arith }) (new-few n given)
