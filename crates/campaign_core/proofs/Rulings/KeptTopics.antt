-- The topics that are kept, by the numbers of the topics of the rules, and the document that is named on one.
use Rattle.std.proofs.Common.{◌≡◌, ◌||◌, ◌<◌, ◌+◌, ℕ, suc, zero, Bool, true, false, not, cond, List, [], ◌∷◌, Option, Some, None, length, map, filter, find, get_or, refl, sym, ap, ◌∙◌, arith, subst, nat_lt, lt-ltb, ltb-true, position}
use Rattle.std.specs.Prelude.{IsPermutation}
use Rattle.std.specs.List.{list_any, position_or_len}
use Rattle.std.specs.Option.{option_map}
use Rattle.std.specs.Str.{bytes_eq}
use Rattle.std.proofs.lemmas.List.{length-map}
use Rattle.std.proofs.lemmas.List.Sums.{passes_at_first}
use Rattle.std.proofs.lemmas.Slice.Eq.{bytes_eq-Decides}
use Rattle.decimal_rank.specs.declared.naming.DocId.{DocId}
use Rattle.decimal_rank.proofs.TruthValues.{bytes_eq-swap}
use Rattle.depth_pool.specs.Holdings.{Held}
use Rattle.depth_pool.specs.declared.runs.RunId.{RunId}
use Rattle.lease_desk.specs.declared.leases.Lease.{Lease as DeskLease}
use Rattle.mtf_queue.specs.Rule.{IsInOrder, first_by_trail as first_there}
use Rattle.mtf_queue.specs.declared.rule.Judged.{Judged}
use Rattle.rulebook.specs.Campaign.{History, is_topic, level, need, topics}
use Rattle.rulebook.specs.Judgements.JudgingOrder.{named_document}
use Rattle.rulebook.specs.Words.{Text, contains_text}
use Rattle.campaign_core.specs.CampaignStates.{KnowsAll}
use Rattle.campaign_core.specs.Assessments.TopicLabelling.{IsLabelled}
use Rattle.campaign_core.specs.Assessments.DeskLeases.{first_open, is_open_in, topic_in}
use Rattle.campaign_core.specs.Numbering.Numbers.{doc_in, names_of}
use Rattle.campaign_core.specs.Assessments.Topics.{KeptTopic, kept_topic, kept_topic_of, labelled_of, pool_of, topic_ids}
use Rattle.assessment.specs.TopicFacts.{IsQueued, TopicFacts, judged_of}
use Rattle.mtf_queue.specs.QueueView.{QueueView}
use Rattle.campaign_core.proofs.Rulings.AcceptedCommands.{listed-id}
use Rattle.campaign_core.proofs.NamedDocuments.NamedDocs.{named-known, named-same}
use Rattle.campaign_core.proofs.Numbers.DocNumbers.{number-within}
use Rattle.campaign_core.proofs.Lists.Elements.{get-map}

module _ (H : History) where
  pub states-long : (states : List TopicFacts) (ids : List Text) → map kept_topic states ≡ map (kept_topic_of H) ids → length states ≡ length ids
  states-long states ids same = sym (length-map states kept_topic) ∙ ap length same ∙ length-map ids (kept_topic_of H)

  kept-at : (states : List TopicFacts) (ids : List Text) (i : ℕ) (d : TopicFacts) (e : Text) → i < length ids
      → map kept_topic states ≡ map (kept_topic_of H) ids → kept_topic (get_or states i d) ≡ kept_topic_of H (get_or ids i e)
  kept-at [] [] i d e within same = absurd (omega (arith, within))
  kept-at [] (id ∷ ids) i d e within same = cc same
  kept-at (s ∷ states) [] i d e within same = cc same
  kept-at (s ∷ states) (id ∷ ids) zero d e within same = cc same
  kept-at (s ∷ states) (id ∷ ids) (suc i) d e within same = kept-at states ids i d e (omega (arith, within)) (cc same)

  place-same : (topic : Text) (states : List TopicFacts) (ids : List Text) → map kept_topic states ≡ map (kept_topic_of H) ids
      → position_or_len (λ (s : TopicFacts). bytes_eq s.id topic) states ≡ topic_in ids topic
  place-same topic [] [] same = refl
  place-same topic [] (id ∷ ids) same = cc same
  place-same topic (s ∷ states) [] same = cc same
  place-same topic (s ∷ states) (id ∷ ids) same =
      let head : kept_topic s ≡ kept_topic_of H id = cc same in
      let tail : map kept_topic states ≡ map (kept_topic_of H) ids = cc same in
      ap (λ t. cond (not t) (1 + position_or_len (λ (s : TopicFacts). bytes_eq s.id topic) states) 0)
      (ap (λ (k : KeptTopic). bytes_eq k.id topic) head ∙ bytes_eq-swap id topic)
      ∙ ap (λ (n : ℕ). cond (not (bytes_eq topic id)) (1 + n) 0) (place-same topic states ids tail)

within-any : {X : Type 0} (p : X → Bool) (xs : List X) → position_or_len p xs < length xs → list_any p xs ≡ true
within-any p [] within = absurd (omega (arith, within))
within-any p (x ∷ xs) within = step (p x) within (within-any p xs)
  where
    step : (t : Bool) → cond (not t) (1 + position_or_len p xs) 0 < suc (length xs)
        → (position_or_len p xs < length xs → list_any p xs ≡ true) → (t || list_any p xs) ≡ true
    step true within rest = refl
    step false within rest = rest (omega (arith, within))

pub topic-back : (ids : List Text) (topic e : Text) → contains_text ids topic ≡ true → get_or ids (topic_in ids topic) e ≡ topic
topic-back ids topic e listed = sym ((bytes_eq-Decides topic _).0 (passes_at_first (bytes_eq topic) ids e (number-within ids topic listed)))

-- the topic of a number: the rules' topic of this id
pub record Placed (H : History) (states : List TopicFacts) (topic : Text) (number : ℕ) : Type 0 where
  pub number_is : number ≡ topic_in (topic_ids H) topic
  pub listed : contains_text (topic_ids H) topic ≡ true
  pub within : number < length states

pub known-topic : (H : History) (states : List TopicFacts) (topic : Text) (number : ℕ) → map kept_topic states ≡ map (kept_topic_of H) (topic_ids H)
    → Some number ≡ position (λ (s : TopicFacts). bytes_eq s.id topic) states → Placed H states topic number
known-topic H states topic number same is = step (nat_lt place (length states)) refl is
  where
    place : ℕ
    place = position_or_len (λ (s : TopicFacts). bytes_eq s.id topic) states

    step : (t : Bool) → nat_lt (position_or_len (λ (s : TopicFacts). bytes_eq s.id topic) states) (length states) ≡ t
        → Some number ≡ cond t (Some (position_or_len (λ (s : TopicFacts). bytes_eq s.id topic) states)) None → Placed H states topic number
    step false less none = cc none
    step true less some =
        let number_is : number ≡ position_or_len (λ (s : TopicFacts). bytes_eq s.id topic) states = cc some in
        let at = place-same H topic states (topic_ids H) same in
        let inside = ltb-true (position_or_len (λ (s : TopicFacts). bytes_eq s.id topic) states) (length states) less in
        record {
          number_is = number_is ∙ at;
          listed = within-any (bytes_eq topic) (topic_ids H) (omega (arith, inside, at, states-long H states (topic_ids H) same));
          within = omega (arith, inside, number_is);
        }

pub unknown-topic : (H : History) (states : List TopicFacts) (topic : Text) → map kept_topic states ≡ map (kept_topic_of H) (topic_ids H)
    → None ≡ position (λ (s : TopicFacts). bytes_eq s.id topic) states → is_topic H topic ≡ false
unknown-topic H states topic same is = listed-id (topics H) topic ∙ step (contains_text (topic_ids H) topic) refl
  where
    step : (t : Bool) → contains_text (topic_ids H) topic ≡ t → t ≡ false
    step false absent = refl
    step true listed =
        let at = place-same H topic states (topic_ids H) same in
        let inside : position_or_len (λ (s : TopicFacts). bytes_eq s.id topic) states < length states =
        omega (arith, number-within (topic_ids H) topic listed, at, states-long H states (topic_ids H) same) in
        let found : position (λ (s : TopicFacts). bytes_eq s.id topic) states ≡ Some (position_or_len (λ (s : TopicFacts). bytes_eq s.id topic) states) =
        ap (λ t. cond t (Some (position_or_len (λ (s : TopicFacts). bytes_eq s.id topic) states)) None)
        (lt-ltb (position_or_len (λ (s : TopicFacts). bytes_eq s.id topic) states) (length states) inside) in
        cc (is, found)

-- the document that the rules name, by its number
pub record NamedDoc (H : History) (now : ℕ) (assessor topic : Text) (doc : DocId) : Type 0 where
  pub text : Text
  pub named_is : named_document H now assessor topic ≡ Some text
  pub doc_is : doc ≡ doc_in (names_of H) text
  pub known : contains_text (names_of H) text ≡ true

-- what is kept of a topic of the campaign
pub record Standing (H : History) (s : TopicFacts) (topic : Text) : Type 0 where
  pub kept_is : kept_topic s ≡ kept_topic_of H topic
  pub labelled : IsLabelled H (names_of H) (record { id = topic; marked = s.marked; graded = s.graded })

module _ (H : History) (states : List TopicFacts) (desk : List DeskLease) (stands : KnowsAll H states desk) (topic : Text)
    (number : ℕ) (number_is : number ≡ topic_in (topic_ids H) topic) (listed : contains_text (topic_ids H) topic ≡ true) where
  inside : number < length (topic_ids H)
  inside = omega (arith, number_is, number-within (topic_ids H) topic listed)

  pub within-states : number < length states
  within-states = omega (arith, inside, states-long H states (topic_ids H) stands.topics_are)

  pub stands-at : (s : TopicFacts) → s ≡ get_or states number s → Standing H s topic
  stands-at s is =
      let id_is : get_or (topic_ids H) number [] ≡ topic = ap (λ n. get_or (topic_ids H) n []) number_is ∙ topic-back (topic_ids H) topic [] listed in
      let kept_is : kept_topic s ≡ kept_topic_of H topic =
      ap kept_topic is ∙ kept-at H states (topic_ids H) number s [] inside stands.topics_are ∙ ap (kept_topic_of H) id_is in
      let labelled_at : IsLabelled H (names_of H) (labelled_of s) =
      subst (IsLabelled H (names_of H)) (get-map labelled_of states number s ∙ ap labelled_of (sym is))
      (stands.labels_are number (labelled_of s) (omega (arith, within-states, length-map states labelled_of))) in
      record {
        kept_is = kept_is;
        labelled = subst (λ (id : Text). IsLabelled H (names_of H) (record { id = id; marked = s.marked; graded = s.graded }))
            (ap (λ (k : KeptTopic). k.id) kept_is) labelled_at;
      }

  -- the document that the desk and the queue name is the one that the rules name
  module _ (s : TopicFacts) (at : Standing H s topic) (queue : QueueView) (queued : IsQueued s.level s.pool s.graded queue) (now : ℕ) (assessor : Text)
      (first_passes : (runs : List Held) (trail : List Judged) (order all : List RunId) (passes : RunId → Bool) → IsInOrder runs trail order
      → IsPermutation all order → find passes order ≡ first_there runs trail (filter passes all)) where
    pub named-there : first_open (is_open_in s.need s.marked desk number now assessor) s.pool queue.order
        ≡ option_map (doc_in (names_of H)) (named_document H now assessor topic)
    named-there =
        let runs_are : s.pool ≡ pool_of H topic = ap (λ (k : KeptTopic). k.runs) at.kept_is in
        let need_is : s.need ≡ need H topic = ap (λ (k : KeptTopic). k.labels_needed) at.kept_is in
        let level_is : s.level ≡ level H topic = ap (λ (k : KeptTopic). k.level) at.kept_is in
        ap (λ n. first_open (is_open_in n s.marked desk number now assessor) s.pool queue.order) need_is
        ∙ ap (λ n. first_open (is_open_in (need H topic) s.marked desk n now assessor) s.pool queue.order) number_is
        ∙ ap (λ runs. first_open (is_open_in (need H topic) s.marked desk (topic_in (topic_ids H) topic) now assessor) runs queue.order) runs_are
        ∙ named-same H topic s.marked s.graded desk now assessor stands.leased at.labelled listed queue.trail queue.order
        (queued.trail_is ∙ ap (λ l. map (judged_of l) s.graded) level_is)
        (subst (λ runs. IsInOrder runs queue.trail queue.order) runs_are queued.in_order)
        (subst (λ (runs : List Held). IsPermutation (map (λ (h : Held). h.run) runs) queue.order) runs_are queued.runs)
        first_passes

    pub none-named : None ≡ first_open (is_open_in s.need s.marked desk number now assessor) s.pool queue.order → named_document H now assessor topic ≡ None
    none-named is = step (named_document H now assessor topic) (is ∙ named-there)
      where
        step : (o : Option Text) → None ≡ option_map (doc_in (names_of H)) o → o ≡ None
        step None none = refl
        step (Some doc) none = cc none

    pub doc-told : (doc : DocId) → Some doc ≡ first_open (is_open_in s.need s.marked desk number now assessor) s.pool queue.order
        → NamedDoc H now assessor topic doc
    doc-told doc is = step (named_document H now assessor topic) refl (is ∙ named-there)
      where
        step : (o : Option Text) → named_document H now assessor topic ≡ o → Some doc ≡ option_map (doc_in (names_of H)) o → NamedDoc H now assessor topic doc
        step None found none = cc none
        step (Some text) found some = record {
          text = text;
          named_is = found;
          doc_is = cc some;
          known = named-known H topic s.marked s.graded desk now assessor stands.leased at.labelled listed text found;
        }
