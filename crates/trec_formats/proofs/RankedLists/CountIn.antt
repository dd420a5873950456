-- One more line of a topic among the counts.
use Rattle.std.proofs.Common.{◌≡◌, ◌≢◌, ◌≤◌, ◌<◌, ◌+◌, ℕ, suc, Bool, true, false, List, [], ◌∷◌, ◌++◌, length, get_or, set, refl, sym, ◌∙◌, ap, arith, Some, bytes_eq, ltb-true}
use Rattle.std.specs.Prelude.{if◌then◌else◌, MatchBool}
use Rattle.std.specs.List.{position_or_len, list_any}
use Rattle.std.proofs.lemmas.List.{length-set}
use Rattle.std.proofs.lemmas.Option.{cond_some}
use Rattle.std.proofs.lemmas.Slice.Eq.{bytes_eq-Decides}
use Rattle.decimal_rank.specs.Names.{number_of, with_name}
use Rattle.trec_formats.specs.declared.runs.topic_counts.TopicCounts.{TopicCounts}
use Rattle.trec_formats.specs.RunFormat.Counts.{count_in, count_at, IsOneMore, AreTopicCounts}

none_last : (t : Bool) → (let n : ℕ = if t then 0 else 0 in n) ≡ 0
none_last true = refl
none_last false = refl

pushed : (names : List (List ℕ)) (counts : List ℕ) (name other : List ℕ) → length counts ≡ length names
    → count_in (names ++ name ∷ []) (counts ++ 0 ∷ []) other ≡ count_in names counts other
pushed [] [] name other sized = none_last (bytes_eq other name)
pushed [] (count ∷ counts) name other sized = absurd (omega (arith, sized))
pushed (first ∷ names) [] name other sized = absurd (omega (arith, sized))
pushed (first ∷ names) (count ∷ counts) name other sized =
    ap (λ n. if bytes_eq other first then count else n) (pushed names counts name other (omega (arith, sized)))

longer : (names : List (List ℕ)) (counts : List ℕ) (other : List ℕ) → length counts ≡ length names
    → count_in names (counts ++ 0 ∷ []) other ≡ count_in names counts other
longer [] counts other sized = refl
longer (first ∷ names) [] other sized = absurd (omega (arith, sized))
longer (first ∷ names) (count ∷ counts) other sized = ap (λ n. if bytes_eq other first then count else n) (longer names counts other (omega (arith, sized)))

new_step : (names : List (List ℕ)) (counts : List ℕ) (name other : List ℕ) (t : Bool) → length counts ≡ length names
    → count_in (if t then names else names ++ name ∷ []) (counts ++ 0 ∷ []) other ≡ count_in names counts other
new_step names counts name other true sized = longer names counts other sized
new_step names counts name other false sized = pushed names counts name other sized

-- a topic that has no line so far
pub count_new : (names new_names : List (List ℕ)) (counts new_counts name : List ℕ) → length counts ≡ length names → new_names ≡ with_name names name
    → new_counts ≡ counts ++ 0 ∷ [] → (other : List ℕ) → count_in new_names new_counts other ≡ count_in names counts other
count_new names new_names counts new_counts name sized names_are counts_are other =
    rw (names_are, counts_are) (new_step names counts name other (list_any (bytes_eq name) names) sized)

module _ (topic : List ℕ) where
  abbrev place_in : List (List ℕ) → ℕ
  place_in names = position_or_len (bytes_eq topic) names

  at_step : (name : List ℕ) (names : List (List ℕ)) (count : ℕ) (counts : List ℕ) (t : Bool) → bytes_eq topic name ≡ t
      → place_in (name ∷ names) < length (name ∷ names) → (place_in names < length names → count_in names counts topic ≡ get_or counts (place_in names) 0)
      → count_in (name ∷ names) (count ∷ counts) topic ≡ get_or (count ∷ counts) (place_in (name ∷ names)) 0
  at_step name names count counts true is there more = rw is refl
  at_step name names count counts false is there more =
      let here : place_in (name ∷ names) ≡ suc (place_in names) = rw is (omega arith) in
      rw (here, is) (more (omega (arith, here, there)))

  at_place : (names : List (List ℕ)) (counts : List ℕ) → length counts ≡ length names → place_in names < length names
      → count_in names counts topic ≡ get_or counts (place_in names) 0
  at_place [] counts sized there = absurd (omega (arith, there))
  at_place (name ∷ names) [] sized there = absurd (omega (arith, sized))
  at_place (name ∷ names) (count ∷ counts) sized there =
      at_step name names count counts (bytes_eq topic name) refl there (at_place names counts (omega (arith, sized)))

  abbrev one_if : List ℕ → ℕ
  one_if other = if bytes_eq topic other then 1 else 0

  first_step : (name other : List ℕ) (count rest : ℕ) (s t : Bool) → bytes_eq topic name ≡ true → bytes_eq other name ≡ s
      → bytes_eq topic other ≡ t → (if s then count + 1 else rest) ≡ (if s then count else rest) + (if t then 1 else 0)
  first_step name other count rest true true is same there = refl
  first_step name other count rest true false is same there = absurd (not_other name other is same there)
    where
      not_other : (name other : List ℕ) → bytes_eq topic name ≡ true → bytes_eq other name ≡ true → bytes_eq topic other ≡ false → ⊥
      not_other name other is same there =
          let a : topic ≡ name = (bytes_eq-Decides topic name).0 is in
          let b : other ≡ name = (bytes_eq-Decides other name).0 same in
          cc ((bytes_eq-Decides topic other).1 (a ∙ sym b), there)
  first_step name other count rest false true is same there =
      let a : topic ≡ name = (bytes_eq-Decides topic name).0 is in
      let b : topic ≡ other = (bytes_eq-Decides topic other).0 there in
      let c : bytes_eq other name ≡ true = (bytes_eq-Decides other name).1 (sym b ∙ a) in
      absurd (cc (c, same))
  first_step name other count rest false false is same there = omega arith

  later_step : (name other : List ℕ) (count rest more : ℕ) (s t : Bool) → bytes_eq topic name ≡ false → bytes_eq other name ≡ s
      → bytes_eq topic other ≡ t → more ≡ rest + (if t then 1 else 0) → (if s then count else more) ≡ (if s then count else rest) + (if t then 1 else 0)
  later_step name other count rest more true true is same there more_is =
      let a : topic ≡ other = (bytes_eq-Decides topic other).0 there in
      let b : other ≡ name = (bytes_eq-Decides other name).0 same in
      absurd (cc ((bytes_eq-Decides topic name).1 (a ∙ b), is))
  later_step name other count rest more true false is same there more_is = omega arith
  later_step name other count rest more false t is same there more_is = more_is

  abbrev raised : List (List ℕ) → List ℕ → List ℕ
  raised names counts = set counts (place_in names) (get_or counts (place_in names) 0 + 1)

  more_step : (name : List ℕ) (names : List (List ℕ)) (count : ℕ) (counts other : List ℕ) (t : Bool) → bytes_eq topic name ≡ t
      → place_in (name ∷ names) < length (name ∷ names)
      → (place_in names < length names → count_in names (raised names counts) other ≡ count_in names counts other + one_if other)
      → count_in (name ∷ names) (raised (name ∷ names) (count ∷ counts)) other ≡ count_in (name ∷ names) (count ∷ counts) other + one_if other
  more_step name names count counts other true is there more =
      let here : place_in (name ∷ names) ≡ 0 = rw is refl in
      rw here (first_step name other count (count_in names counts other) (bytes_eq other name) (bytes_eq topic other) is refl refl)
  more_step name names count counts other false is there more =
      let here : place_in (name ∷ names) ≡ suc (place_in names) = rw is (omega arith) in
      rw here (later_step name other count (count_in names counts other) _ (bytes_eq other name)
      (bytes_eq topic other) is refl refl (more (omega (arith, here, there))))

  more_at : (names : List (List ℕ)) (counts other : List ℕ) → length counts ≡ length names → place_in names < length names
      → count_in names (raised names counts) other ≡ count_in names counts other + one_if other
  more_at [] counts other sized there = absurd (omega (arith, there))
  more_at (name ∷ names) [] other sized there = absurd (omega (arith, sized))
  more_at (name ∷ names) (count ∷ counts) other sized there =
      more_step name names count counts other (bytes_eq topic name) refl there (more_at names counts other (omega (arith, sized)))

-- the counts behind one more line of a topic, where it was counted
pub record IsCounted (old : TopicCounts) (topic : List ℕ) (counted : Bool) (new : TopicCounts) : Type 0 where
  pub change : MatchBool counted
      ((count_at old topic ≢ 1000) × ((other : List ℕ) → count_at new other ≡ count_at old other + (if bytes_eq topic other then 1 else 0)))
      (count_at old topic ≡ 1000)
  pub tally : AreTopicCounts new

most_step : (topic other : List ℕ) (old was new : ℕ) (t : Bool) → bytes_eq topic other ≡ t → (topic ≡ other → was ≡ old)
    → old ≤ 1000 → was < 1000 → new ≡ old + (if t then 1 else 0) → new ≤ 1000
most_step topic other old was new true is same most less new_is = omega (arith, same ((bytes_eq-Decides topic other).0 is), less, new_is)
most_step topic other old was new false is same most less new_is = omega (arith, most, new_is)

counted_step : (old : TopicCounts) (topic : List ℕ) (names : List (List ℕ)) (counts : List ℕ) (new : TopicCounts) (counted : Bool) → AreTopicCounts old
    → position_or_len (bytes_eq topic) names < length names → length counts ≡ length names
    → ((other : List ℕ) → count_in names counts other ≡ count_at old other) → new.topics ≡ names
    → IsOneMore counts (position_or_len (bytes_eq topic) names) counted new.counts.items → IsCounted old topic counted new
counted_step old topic names counts new true tally there sized same names_are more =
    let here : count_in names counts topic ≡ get_or counts (position_or_len (bytes_eq topic) names) 0 = at_place topic names counts sized there in
    let change : (other : List ℕ) → count_at new other ≡ count_at old other + (if bytes_eq topic other then 1 else 0) =
    λ other. rw (names_are, more.1) (more_at topic names counts other sized there) ∙ ap (λ n. n + (if bytes_eq topic other then 1 else 0)) (same other) in
    let less : count_at old topic < 1000 = omega (arith, more.0, here, same topic) in
    record {
      change = ((λ full. omega (arith, full, less)), change);
      tally = record {
        sized = rw (names_are, more.1) (length-set counts _ _ ∙ sized);
        most = λ other. most_step topic other (count_at old other) (count_at old topic) (count_at new other)
            (bytes_eq topic other) refl (λ is. ap (count_at old) is) (tally.most other) less (change other);
      };
    }
counted_step old topic names counts new false tally there sized same names_are more =
    let here : count_in names counts topic ≡ get_or counts (position_or_len (bytes_eq topic) names) 0 = at_place topic names counts sized there in
    record {
      change = omega (arith, more.0, here, same topic, tally.most topic);
      tally = record { sized = rw (names_are, more.1) sized; most = λ other. rw (names_are, more.1, same other) (tally.most other) };
    }

pub counted : (old : TopicCounts) (topic : List ℕ) (names : List (List ℕ)) (counts : List ℕ) (place : ℕ) (new : TopicCounts) (counted : Bool)
    → AreTopicCounts old → number_of names topic ≡ Some place → length counts ≡ length names
    → ((other : List ℕ) → count_in names counts other ≡ count_at old other) → new.topics ≡ names
    → IsOneMore counts place counted new.counts.items → IsCounted old topic counted new
counted old topic names counts place new is_counted tally found sized same names_are more =
    let p = cond_some _ _ _ found in
    counted_step old topic names counts new is_counted tally (ltb-true _ _ p.0) sized same names_are (rw (← p.1) at more)
