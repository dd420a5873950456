-- A caller of a campaign in a hall: its requests are those of a talk, and the places of what it added are its own.
use Rattle.std.proofs.Common.{◌≡◌, ℕ, suc, ◌+◌, ◌≤◌, ◌==◌, List, [], ◌∷◌, ◌++◌, Bool, true, false, length, map, refl, sym, ap, ◌∙◌, arith, cond, append-nil, append_assoc, length-append}
use Rattle.std.proofs.lemmas.Bool.{eqb-true, eqb-false}
use Rattle.std.proofs.lemmas.List.{map-append}
use Rattle.hall.specs.Acts.{Known}
use Rattle.hall.specs.Places.{added_place}
use Rattle.rulebook.specs.declared.answer.Answer.{Answer}
use Rattle.rulebook.specs.declared.ask.Addressed.{Addressed}
use Rattle.rulebook.specs.declared.entry.Entry.{Entry}
use Rattle.rulebook.specs.Campaign.{History}
use Rattle.rulebook.specs.Histories.Stories.{IsPartOf, IsTold, Story}
use Rattle.book.specs.Halls.{seen_as}
use Rattle.campaign_server.specs.Conversations.Stories.{added_since}
use Rattle.campaign_server.specs.Conversations.Talks.{Before, IsSeen, places_added}
use Rattle.campaign_server.specs.HallConnections.{TellsInHall}
use Rattle.campaign_server.proofs.TalkSteps.TalkChains.{since_is}

-- a hall's places count from 1, those of a talk from 0
pub places_are : (before more after : History) → after ≡ before ++ more → length after ≤ length before + 1
    → added_place before after ≡ map suc (places_added before (added_since before after))
places_are before [] after is few =
    step (length before == length after) refl ∙ sym (ap (λ rest. map suc (places_added before rest)) (since_is before [] after is))
  where
    step : (same : Bool) → (length before == length after) ≡ same → cond same [] (suc (length before) ∷ []) ≡ []
    step true e = refl
    step false e = absurd (eqb-false (length before) (length after) e (omega (arith, ap length is, length-append before [])))
places_are before (first ∷ []) after is few =
    step (length before == length after) refl ∙ sym (ap (λ rest. map suc (places_added before rest)) (since_is before (first ∷ []) after is))
  where
    step : (same : Bool) → (length before == length after) ≡ same → cond same [] (suc (length before) ∷ []) ≡ suc (length before) ∷ []
    step false e = refl
    step true e = absurd (let same = eqb-true (length before) (length after) e in omega (arith, same, ap length is, length-append before (first ∷ [])))
places_are before (first ∷ second ∷ more) after is few = absurd (omega (arith, few, ap length is, length-append before (first ∷ second ∷ more)))

module _ {S N : Type 0} (pass : S → Known Entry) (name : S → N) where
  -- a request of a caller, whose pass stays the one of this name
  abbrev pub Asks : S → Addressed → Answer → S → Type 0
  Asks old asked answer new = TellsInHall (pass old) asked answer (pass new) × (name new ≡ name old)

  -- these places, from 0, became the caller's own
  pub record Gains (old : S) (places : List ℕ) (new : S) : Type 0 where
    pub mine : (pass new).mine ≡ (pass old).mine ++ map suc places
    pub hall : (pass new).hall ≡ (pass old).hall
    pub opening : (pass old).seen.opening ≡ (pass new).seen.opening
    pub name_is : name new ≡ name old

  abbrev pub look : S → Story
  look s = seen_as (pass s).seen

  visit_step : (old : S) (asked : Addressed) (answer : Answer) (new : S) → Asks old asked answer new
      → (b : Story) × Before false (look old) b × IsTold b asked answer (look new) × Gains old (places_added b.list (added_since b.list (look new).list)) new
  visit_step old asked answer new visits =
      let (b, most, grows, told, mine) = visits.0.0 in
      let (rest, is) = grows.0.0 in
      let most_of : IsPartOf (look old) (seen_as b) = record { longer = most.0; later = most.1; opening = most.2 } in (
        seen_as b,
        most_of,
        told,
        record {
          mine = mine ∙ ap (λ more. (pass old).mine ++ more) (places_are b.list rest (pass new).seen.list is grows.1);
          hall = visits.0.1;
          opening = most.2 ∙ told.opening;
          name_is = visits.1;
        },
      )

  pub visits_seen : IsSeen Asks false look Gains
  visits_seen = record {
    step = visit_step;
    none = λ s. record { mine = sym (append-nil (pass s).mine); hall = refl; opening = refl; name_is = refl };
    both = λ a b c places others first second. record {
      mine =
          second.mine ∙ ap (λ mine. mine ++ map suc others) first.mine ∙ append_assoc (pass a).mine (map suc places) (map suc others)
          ∙ ap (λ more. (pass a).mine ++ more) (sym (map-append suc places others));
      hall = second.hall ∙ first.hall;
      opening = first.opening ∙ second.opening;
      name_is = second.name_is ∙ first.name_is;
    };
  }
