-- The topics of a campaign by id, each with its number.
use Rattle.std.proofs.Common.{◌≡◌, ◌∙◌, ℕ, List, [], ◌∷◌, Option, Some, ap, map, refl, Ordering, Less, Equal, Greater}
use Rattle.std.specs.BTreeMap.{insert_entry}
use Rattle.std.specs.BTreeSet.{insert_key}
use Rattle.std.specs.Ordering.{match_ordering}
use Rattle.rulebook.specs.Words.{Text}
use Rattle.rulebook.specs.Campaign.{History}
use Rattle.campaign_core.specs.Views.LentTopics.{topic_at}
use Rattle.campaign_core.proofs.Lists.ByteOrder.{same_text, text_cmp}
use Rattle.leave_out.specs.TopicOrder.{AreTopicNumbers}

abbrev first : Text × ℕ → Text
first one = one.0

-- the keys after an entry is put in
pub keys-put : (topics : List (Text × ℕ)) (id : Text) (n : ℕ)
    → map (λ one. one.0) (insert_entry text_cmp topics id n) ≡ insert_key text_cmp (map (λ one. one.0) topics) id
keys-put [] id n = refl
keys-put (one ∷ topics) id n = step (text_cmp id one.0) (keys-put topics id n)
  where
    step : (o : Ordering) → map first (insert_entry text_cmp topics id n) ≡ insert_key text_cmp (map first topics) id
        → map first (match_ordering o ((id, n) ∷ one ∷ topics) ((one.0, n) ∷ topics) (one ∷ insert_entry text_cmp topics id n))
        ≡ match_ordering o (id ∷ one.0 ∷ map first topics) (one.0 ∷ map first topics) (one.0 ∷ insert_key text_cmp (map first topics) id)
    step Less rest = refl
    step Equal rest = refl
    step Greater rest = ap (λ ids. one.0 ∷ ids) rest

abbrev known : History → Text × ℕ → Option Text
known H one = topic_at H one.1

abbrev named : Text × ℕ → Option Text
named one = Some one.0

-- the numbers are still those of the ids
pub numbered-put : (H : History) (topics : List (Text × ℕ)) (id : Text) (n : ℕ) → topic_at H n ≡ Some id
    → AreTopicNumbers H topics → AreTopicNumbers H (insert_entry text_cmp topics id n)
numbered-put H [] id n at are = ap (λ o. o ∷ []) at
numbered-put H (one ∷ topics) id n at are =
    let head : known H one ≡ named one = cc are in
    let tail : map (known H) topics ≡ map named topics = cc are in
    step (text_cmp id one.0) refl head tail (numbered-put H topics id n at tail)
  where
    step : (o : Ordering) → text_cmp id one.0 ≡ o → known H one ≡ named one → map (known H) topics ≡ map named topics
        → AreTopicNumbers H (insert_entry text_cmp topics id n)
        → AreTopicNumbers H (match_ordering o ((id, n) ∷ one ∷ topics) ((one.0, n) ∷ topics) (one ∷ insert_entry text_cmp topics id n))
    step Less is head tail rest = ap (λ o. o ∷ known H one ∷ map (known H) topics) at ∙ ap (λ os. named (id, n) ∷ os) are
    step Equal is head tail rest =
        ap (λ o. o ∷ map (known H) topics) (at ∙ ap (λ (t : Text). let o : Option Text = Some t in o) (same_text id one.0 is)) ∙ ap (λ os. named one ∷ os) tail
    step Greater is head tail rest = ap (λ o. o ∷ map (known H) (insert_entry text_cmp topics id n)) head ∙ ap (λ os. named one ∷ os) rest

-- the topics by their numbers
pub numbers-are : (H : History) (topics : List (Text × ℕ)) → AreTopicNumbers H topics
    → map (topic_at H) (map (λ one. one.1) topics) ≡ map Some (map (λ one. one.0) topics)
numbers-are H [] are = refl
numbers-are H (one ∷ topics) are =
    let head : known H one ≡ named one = cc are in
    let tail : map (known H) topics ≡ map named topics = cc are in
    ap (λ o. o ∷ map (topic_at H) (map (λ (one : Text × ℕ). one.1) topics)) head ∙ ap (λ os. named one ∷ os) (numbers-are H topics tail)
