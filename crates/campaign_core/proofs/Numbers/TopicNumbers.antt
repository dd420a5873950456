-- The topics of a campaign by the places of their ids.
use Rattle.std.proofs.Common.{◌≡◌, ◌+◌, ℕ, zero, suc, true, not, cond, List, [], ◌∷◌, Option, Some, None, get_or, length, map, refl, sym, subst, ap, ◌∙◌, lt-ltb, ltb}
use Rattle.std.specs.List.{position, position_or_len}
use Rattle.std.specs.Prelude.{slice_get}
use Rattle.std.specs.Option.{IsSome, option_map, option_map_or}
use Rattle.std.specs.Str.{bytes_eq}
use Rattle.std.proofs.lemmas.List.{length-map}
use Rattle.std.proofs.lemmas.List.Folds.{find_at}
use Rattle.decimal_rank.specs.Names.{number_of}
use Rattle.decimal_rank.specs.declared.naming.DocId.{DocId}
use Rattle.decimal_rank.proofs.TruthValues.{bytes_eq-swap}
use Rattle.rulebook.specs.Campaign.{History, title, topics}
use Rattle.rulebook.specs.Words.{Text, contains_text}
use Rattle.campaign_core.specs.Assessments.DeskLeases.{topic_in}
use Rattle.campaign_core.specs.Numbering.Numbers.{doc_in}
use Rattle.campaign_core.specs.Assessments.Topics.{topic_ids}
use Rattle.assessment.specs.TopicFacts.{TopicFacts}
use Rattle.trec_formats.specs.declared.Topic.{Topic}
use Rattle.campaign_core.proofs.Numbers.DocNumbers.{number-some, number-within}

-- an item with an id is at the place of the id
same-place : {X : Type 0} (id_of : X → Text) (items : List X) (id : Text)
    → position_or_len (λ x. bytes_eq (id_of x) id) items ≡ position_or_len (bytes_eq id) (map id_of items)
same-place id_of [] id = refl
same-place id_of (x ∷ items) id =
    ap (λ b. cond (not b) (1 + position_or_len (λ x. bytes_eq (id_of x) id) items) 0) (bytes_eq-swap (id_of x) id)
    ∙ ap (λ n. cond (not (bytes_eq id (id_of x))) (1 + n) 0) (same-place id_of items id)

-- what stands for a topic where there is none
abbrev pub no_topic : Topic
no_topic = record { id = []; title = []; desc = []; narr = [] }

titled-or : (ts : List Topic) (n : ℕ) → (get_or ts n no_topic).title ≡ option_map_or (λ t. t.title) (slice_get ts n) []
titled-or [] n = refl
titled-or (t ∷ ts) zero = refl
titled-or (t ∷ ts) (suc n) = titled-or ts n

-- the title of the topic at the place of an id
pub title-at : (H : History) (id : Text) (number : ℕ) → number ≡ topic_in (topic_ids H) id → (get_or (topics H) number no_topic).title ≡ title H id
title-at H id number is =
    let place : number ≡ position_or_len (λ (t : Topic). bytes_eq t.id id) (topics H) = is ∙ sym (same-place (λ (t : Topic). t.id) (topics H) id) in
    titled-or (topics H) number
    ∙ ap (λ (o : Option Topic). option_map_or (λ t. t.title) o [])
    (ap (slice_get (topics H)) place ∙ sym (find_at (λ (t : Topic). bytes_eq t.id id) (topics H)))

-- a topic of the campaign is found at the place of its id
pub topic-found : (topics : List TopicFacts) (ids : List Text) (topic : Text) → map (λ (t : TopicFacts). t.id) topics ≡ ids → contains_text ids topic ≡ true
    → position (λ t. bytes_eq t.id topic) topics ≡ Some (topic_in ids topic)
topic-found topics ids topic ids_are listed =
    let place : position_or_len (λ (t : TopicFacts). bytes_eq t.id topic) topics ≡ topic_in ids topic =
    same-place (λ (t : TopicFacts). t.id) topics topic ∙ ap (λ is. position_or_len (bytes_eq topic) is) ids_are in
    let long : length topics ≡ length ids = sym (length-map topics (λ (t : TopicFacts). t.id)) ∙ ap length ids_are in
    ap (λ n. cond (ltb n (length topics)) (Some n) None) place
    ∙ ap (λ m. cond (ltb (topic_in ids topic) m) (Some (topic_in ids topic)) None) long
    ∙ ap (λ t. cond t (Some (topic_in ids topic)) None) (lt-ltb _ _ (number-within ids topic listed))

pub some-there : {X : Type 0} (o : Option X) (x : X) → o ≡ Some x → IsSome o
some-there o x is = subst IsSome (sym is) refl

-- a name that is found has its number
pub found-number : (names : List Text) (doc : Text) (found : DocId) (o : Option DocId) → contains_text names doc ≡ true
    → option_map (λ d. d.0) o ≡ number_of names doc → o ≡ Some found → found ≡ doc_in names doc
found-number names doc found o named numbers is =
    let all : ◌≡◌ {A = Option ℕ} (Some found.0) (Some (doc_in names doc).0) =
    ap (λ (o : Option DocId). option_map (λ d. d.0) o) (sym is) ∙ numbers ∙ number-some names doc named in
    let same : found.0 ≡ (doc_in names doc).0 = cc all in
    ap (λ (n : ℕ). let d : DocId = record { 0 = n } in d) same
