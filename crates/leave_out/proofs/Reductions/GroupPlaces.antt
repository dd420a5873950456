-- The reduced judgements of a group: on a topic, and at their place among those of the groups.
use Rattle.std.proofs.Common.{◌≡◌, ◌<◌, ◌∙◌, ℕ, List, [], ◌∷◌, Option, None, Some, ap, arith, get_or, length, refl, subst, sym}
use Rattle.std.specs.Prelude.{All, position, slice_get}
use Rattle.std.specs.Option.{option_map}
use Rattle.std.specs.Str.{bytes_eq}
use Rattle.std.proofs.lemmas.List.{get_or-map, length-map}
use Rattle.std.proofs.lemmas.List.Quantifiers.{position-Some}
use Rattle.std.proofs.lemmas.Slice.Eq.{bytes_eq-Decides}
use Rattle.std.proofs.lemmas.Option.{slice_get-get_or}
use Rattle.decimal_rank.proofs.Lists.{slice-there}
use Rattle.rulebook.specs.Campaign.{History}
use Rattle.rulebook.specs.Judgements.Grades.{labelled_documents}
use Rattle.rulebook.specs.Words.{Text}
use Rattle.campaign_core.specs.Views.LentTopics.{topic_at}
use Rattle.campaign_core.specs.Assessments.Topics.{topic_ids}
use Rattle.leave_out.specs.ReducedJudgements.{AreFew, AreOfGroup, AreReduced, group_in, reduced_in}
use Rattle.leave_out.specs.declared.groups.GroupJudgements.{GroupJudgements}
use Rattle.leave_out.specs.declared.reduced_judgements.ReducedJudgements.{ReducedJudgements}

-- On a topic.
module _ (H : History) (group : Text) (topics : List ReducedJudgements) (reduced : AreReduced H group topics) (i : ℕ)
    (within : i < length (topic_ids H)) where
  abbrev of : Text → ReducedJudgements
  of topic = reduced_in H group topic (labelled_documents H topic)

  pub topic-within : i < length topics
  topic-within = omega (arith, within, ap (λ (ts : List ReducedJudgements). length ts) reduced.topics_are, length-map (topic_ids H) of)

  pub topic-reduced : (one : ReducedJudgements) → one ≡ get_or topics i one → (id : Text) → topic_at H i ≡ Some id
      → one ≡ reduced_in H group id (labelled_documents H id)
  topic-reduced one is id at =
      let same : get_or (topic_ids H) i [] ≡ id = (slice-there (topic_ids H) i [] id at).1 in
      is ∙ ap (λ (ts : List ReducedJudgements). get_or ts i one) reduced.topics_are ∙ get_or-map of (topic_ids H) i [] one within ∙ ap of same

  pub topic-few : (one : ReducedJudgements) → one ≡ get_or topics i one → AreFew one
  topic-few one is = subst AreFew (sym is) (reduced.few i one topic-within)

-- At a place.

pub group-found : (groups : List GroupJudgements) (group : Text) (place : ℕ)
    → position (λ (one : GroupJudgements). bytes_eq one.group group) groups ≡ Some place → option_map group_in (slice_get groups place) ≡ Some group
group-found [] group place is = cc is
group-found (first ∷ others) group place is =
    let there = position-Some (λ (one : GroupJudgements). bytes_eq one.group group) (first ∷ others) place first is in
    let found : GroupJudgements = get_or (first ∷ others) place first in
    let same : found.group ≡ group = (bytes_eq-Decides found.group group).0 there.1 in
    ap (option_map group_in) (slice_get-get_or (first ∷ others) place first there.0) ∙ ap (λ (g : Text). let o : Option Text = Some g in o) same

module _ (H : History) (groups : List GroupJudgements) (place : ℕ) (group : Text) (is : option_map group_in (slice_get groups place) ≡ Some group) where
  pub place-within : place < length groups
  place-within = step (slice_get groups place) refl is
    where
      step : (o : Option GroupJudgements) → slice_get groups place ≡ o → option_map group_in o ≡ Some group → place < length groups
      step None at none = cc none
      step (Some one) at some = (slice-there groups place one one at).0

  pub place-group : (one : GroupJudgements) → one ≡ get_or groups place one → one.group ≡ group
  place-group one one_is = step (slice_get groups place) refl is
    where
      step : (o : Option GroupJudgements) → slice_get groups place ≡ o → option_map group_in o ≡ Some group → one.group ≡ group
      step None at none = cc none
      step (Some found) at some = let same : found.group ≡ group = cc some in ap group_in (one_is ∙ (slice-there groups place one found at).1) ∙ same

  pub place-reduced : (one : GroupJudgements) → one ≡ get_or groups place one → All (AreOfGroup H) groups → AreOfGroup H one
  place-reduced one one_is all = subst (AreOfGroup H) (sym one_is) (all place one place-within)
