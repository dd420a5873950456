-- The documents with a label are among the names, by what a board tells.
use Rattle.std.proofs.Common.{◌≡◌, ◌∙◌, ℕ, zero, suc, Bool, true, false, List, [], ◌∷◌, Some, ap, length, map, refl, sym}
use Rattle.std.specs.Prelude.{All, nat_lt, slice_get}
use Rattle.std.proofs.lemmas.List.Elements.{All-head, All-tail}
use Rattle.labels.specs.declared.given.Given.{Given}
use Rattle.assessment.specs.TopicFacts.{TopicFacts}
use Rattle.rulebook.specs.Campaign.{History}
use Rattle.rulebook.specs.Histories.Entries.{LabelledAreListed}
use Rattle.rulebook.specs.Judgements.Grades.{is_labelled, labelled_documents, labels_on}
use Rattle.rulebook.specs.Words.{Text, contains_text}
use Rattle.score_index.specs.Scores.{Scores}
use Rattle.campaign_core.specs.Assessments.TopicLabelling.{IsLabelled}
use Rattle.campaign_core.specs.Views.Lendings.{IsBoardOf}
use Rattle.campaign_core.specs.Numbering.Numbers.{are_named, names_of}
use Rattle.campaign_core.specs.Assessments.Topics.{KeptTopic, LabelledTopic, kept_topic, kept_topic_of, labelled_of, topic_ids}
use Rattle.leave_out.proofs.Elements.{all-there}

-- what is known of the topic of a number
known-at : (H : History) (topics : List TopicFacts) (ids : List Text) (n : ℕ) (id : Text) → map kept_topic topics ≡ map (kept_topic_of H) ids
    → All (IsLabelled H (names_of H)) (map labelled_of topics)
    → slice_get ids n ≡ Some id → (topic : LabelledTopic) × IsLabelled H (names_of H) topic × (topic.id ≡ id)
known-at H [] [] n id same all at = cc at
known-at H [] (i ∷ ids) n id same all at = cc same
known-at H (t ∷ topics) [] n id same all at = cc same
known-at H (t ∷ topics) (i ∷ ids) zero id same all at =
    let head : kept_topic t ≡ kept_topic_of H i = cc same in
    let here : i ≡ id = cc at in
    (labelled_of t, All-head (IsLabelled H (names_of H)) (labelled_of t) (map labelled_of topics) all, ap (λ (k : KeptTopic). k.id) head ∙ here)
known-at H (t ∷ topics) (i ∷ ids) (suc n) id same all at =
    let tail : map kept_topic topics ≡ map (kept_topic_of H) ids = cc same in
    known-at H topics ids n id tail (All-tail (IsLabelled H (names_of H)) (labelled_of t) (map labelled_of topics) all) at

pub labelled-named : (H : History) (board : Scores) → LabelledAreListed → IsBoardOf H board → (n : ℕ) (id : Text)
    → slice_get (topic_ids H) n ≡ Some id → are_named (names_of H) (labelled_documents H id) ≡ true
labelled-named H board listed is n id at =
    let known = known-at H is.topics (topic_ids H) n id is.knows.topics_are is.knows.labels_are at in
    all-there (names_of H) (labelled_documents H id)
    (λ doc there. step doc (contains_text (names_of H) doc) refl known.0 known.1 known.2 (sym (listed H id doc) ∙ there))
  where
    step : (doc : Text) (t : Bool) → contains_text (names_of H) doc ≡ t → (topic : LabelledTopic)
        → IsLabelled H (names_of H) topic → topic.id ≡ id → is_labelled H id doc ≡ true → t ≡ true
    step doc true named topic known is labelled_documents = refl
    step doc false named topic known is labelled_documents =
        let none : labels_on H id doc ≡ [] = ap (λ (id : Text). labels_on H id doc) (sym is) ∙ known.labels_named doc named in
        let no : is_labelled H id doc ≡ false = ap (λ (labels : List Given). nat_lt 0 (length labels)) none in
        sym no ∙ labelled_documents
