-- The labels of a document that a request names by its docno.
use Rattle.std.proofs.Common.{◌≡◌, ◌||◌, ◌+◌, ◌<◌, ◌≤◌, ℕ, suc, Bool, true, false, not, cond, List, [], ◌∷◌, Option, Some, None, Ok, Err, length, refl, sym, ap, ◌∙◌, arith, get_or, subst}
use Rattle.std.specs.List.{position, position_or_len}
use Rattle.std.specs.Str.{bytes_eq}
use Rattle.std.proofs.lemmas.Bool.{le-ltb, lt-ltb}
use Rattle.decimal_rank.specs.Names.{number_of}
use Rattle.decimal_rank.specs.declared.naming.DocId.{DocId}
use Rattle.labels.specs.LabelledDocuments.{given_at}
use Rattle.rulebook.specs.declared.rules.Phase.{Phase}
use Rattle.rulebook.specs.declared.rules.Phase.TheVariants.{Judging}
use Rattle.rulebook.specs.declared.reply.Refusal.TheVariants as refusal
use Rattle.rulebook.specs.declared.reply.Reply.TheVariants as reply
use Rattle.rulebook.specs.Answers.{grade_range}
use Rattle.rulebook.specs.Requests.Refusals.{◌when◌, is_phase, unless}
use Rattle.rulebook.specs.Words.{Text, contains_text}
use Rattle.rulebook.specs.Campaign.{History, is_topic, phase, rules_of, topics}
use Rattle.rulebook.specs.Judgements.Grades.{labels_on}
use Rattle.campaign_core.specs.Assessments.TopicLabelling.{IsLabelled, doc_outcome}
use Rattle.campaign_core.specs.Numbering.Numbers.{IsNumberOf, names_of}
use Rattle.campaign_core.specs.Assessments.Topics.{KeptTopic, LabelledTopic, kept_topic, kept_topic_of, labelled_of}
use Rattle.assessment.specs.TopicFacts.{TopicFacts}
use Rattle.campaign_core.specs.CampaignStates.{KnowsAll}
use Rattle.lease_desk.specs.declared.leases.Lease.{Lease as DeskLease}
use Rattle.campaign_core.proofs.Rulings.AcceptedCommands.{listed-id}
use Rattle.campaign_core.proofs.Rulings.TestOrder.{in-phase}
use Rattle.campaign_core.proofs.Rulings.KeptTopics.{known-topic, stands-at}
use Rattle.campaign_core.proofs.Numbers.TopicNumbers.{found-number}

absent-past : (names : List Text) (doc : Text) → contains_text names doc ≡ false → length names ≤ position_or_len (bytes_eq doc) names
absent-past [] doc absent = omega arith
absent-past (x ∷ names) doc absent = step (bytes_eq doc x) refl absent (absent-past names doc)
  where
    step : (t : Bool) → bytes_eq doc x ≡ t → (t || contains_text names doc) ≡ false
        → (contains_text names doc ≡ false → length names ≤ position_or_len (bytes_eq doc) names)
        → suc (length names) ≤ cond (not (bytes_eq doc x)) (1 + position_or_len (bytes_eq doc) names) 0
    step true is gone rest = cc gone
    step false is gone rest = rw is (omega (arith, rest gone))

absent-none : (names : List Text) (doc : Text) → contains_text names doc ≡ false → number_of names doc ≡ None
absent-none names doc absent =
    ap (λ t. cond t (Some (position_or_len (bytes_eq doc) names)) None)
    (le-ltb (position_or_len (bytes_eq doc) names) (length names) (absent-past names doc absent))

found-named : (names : List Text) (doc : Text) (n : ℕ) → (let found : Option ℕ = Some n in found ≡ number_of names doc) → contains_text names doc ≡ true
found-named names doc n is = step (contains_text names doc) refl
  where
    step : (t : Bool) → contains_text names doc ≡ t → t ≡ true
    step true there = refl
    step false absent = let both : ◌≡◌ {A = Option ℕ} (Some n) None = is ∙ absent-none names doc absent in cc both

-- the labels of a document that is found
pub found-labels : (H : History) (names : List Text) (t : LabelledTopic) (doc : Text) (at : DocId)
    → (let found : Option ℕ = Some at.0 in found ≡ number_of names doc) → IsLabelled H names t → given_at t.marked at ≡ labels_on H t.id doc
found-labels H names t doc at is labelled =
    let named = found-named names doc at.0 is in
    ap (given_at t.marked) (found-number names doc at (Some at) named is refl) ∙ labelled.given_are doc named

-- what is found is the number of a docno that is among the names
pub number-of-found : (names : List Text) (doc : Text) (at : DocId)
    → (let found : Option ℕ = Some at.0 in found ≡ number_of names doc) → IsNumberOf names doc at
number-of-found names doc at is =
    let named = found-named names doc at.0 is in
    record { named = named; number_is = found-number names doc at (Some at) named is refl }

-- What an amendment or a ruling comes to, test by test.

module _ (H : History) (topic : Text) (labelled : Bool) (grade : ℕ) (p : Phase) (phase_is : p ≡ phase H) (judging : true ≡ is_phase Judging p) where
  past-phase : doc_outcome H topic labelled grade
      ≡ unless ((refusal.UnknownTopic when not (is_topic H topic)) ∷ (refusal.NotLabelled when not labelled) ∷ grade_range H grade ∷ []) (Ok reply.Done)
  past-phase = in-phase H p ((refusal.UnknownTopic when not (is_topic H topic)) ∷ (refusal.NotLabelled when not labelled) ∷ grade_range H grade ∷ [])
      (Ok reply.Done) phase_is judging

  pub doc-unknown : is_topic H topic ≡ false → Err refusal.UnknownTopic ≡ doc_outcome H topic labelled grade
  doc-unknown unknown =
      sym (past-phase
      ∙ ap (λ t. unless ((refusal.UnknownTopic when not t) ∷ (refusal.NotLabelled when not labelled) ∷ grade_range H grade ∷ []) (Ok reply.Done)) unknown)

  module _ (listed : is_topic H topic ≡ true) where
    past-topic : doc_outcome H topic labelled grade ≡ unless ((refusal.NotLabelled when not labelled) ∷ grade_range H grade ∷ []) (Ok reply.Done)
    past-topic = past-phase
        ∙ ap (λ t. unless ((refusal.UnknownTopic when not t) ∷ (refusal.NotLabelled when not labelled) ∷ grade_range H grade ∷ []) (Ok reply.Done)) listed

    pub doc-unlabelled : labelled ≡ false → Err refusal.NotLabelled ≡ doc_outcome H topic labelled grade
    doc-unlabelled none = sym (past-topic ∙ ap (λ t. unless ((refusal.NotLabelled when not t) ∷ grade_range H grade ∷ []) (Ok reply.Done)) none)

    module _ (some : labelled ≡ true) where
      past-label : doc_outcome H topic labelled grade ≡ unless (grade_range H grade ∷ []) (Ok reply.Done)
      past-label = past-topic ∙ ap (λ t. unless ((refusal.NotLabelled when not t) ∷ grade_range H grade ∷ []) (Ok reply.Done)) some

      pub doc-outside : (rules_of H).top_grade < grade → Err refusal.GradeRange ≡ doc_outcome H topic labelled grade
      doc-outside above = sym (past-label ∙ ap (λ t. unless ((refusal.GradeRange when t) ∷ []) (Ok reply.Done)) (lt-ltb (rules_of H).top_grade grade above))

      pub doc-given : grade ≤ (rules_of H).top_grade → Ok reply.Done ≡ doc_outcome H topic labelled grade
      doc-given within = sym (past-label ∙ ap (λ t. unless ((refusal.GradeRange when t) ∷ []) (Ok reply.Done)) (le-ltb (rules_of H).top_grade grade within))

-- the state of a topic that was found
pub record FoundTopic (H : History) (names : List Text) (s : TopicFacts) (topic : Text) : Type 0 where
  pub id_is : s.id ≡ topic
  pub kept_is : kept_topic s ≡ kept_topic_of H topic
  pub listed : is_topic H topic ≡ true
  pub labelled : IsLabelled H names (labelled_of s)

pub topic-there : (H : History) (states : List TopicFacts) (desk : List DeskLease) (names : List Text) (topic : Text) (number : ℕ) (s : TopicFacts)
    → KnowsAll H states desk → names ≡ names_of H
    → Some number ≡ position (λ (s : TopicFacts). bytes_eq s.id topic) states → s ≡ get_or states number s → FoundTopic H names s topic
topic-there H states desk names topic number s knows names_are found is =
    let at = known-topic H states topic number knows.topics_are found in
    let stands = stands-at H states desk knows topic number at.number_is at.listed s is in
    let id_is : s.id ≡ topic = ap (λ (k : KeptTopic). k.id) stands.kept_is in
    record {
      id_is = id_is;
      kept_is = stands.kept_is;
      listed = listed-id (topics H) topic ∙ at.listed;
      labelled = subst (λ ns. IsLabelled H ns (labelled_of s)) (sym names_are)
          (subst (λ (id : Text). IsLabelled H (names_of H) (record { id = id; marked = s.marked; graded = s.graded })) (sym id_is) stands.labelled);
    }
