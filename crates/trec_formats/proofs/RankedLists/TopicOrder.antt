-- The order of topics, and lines that stand by it.
use Rattle.std.proofs.Common.{Ordering, Less, Equal, Greater, ◌≡◌, ◌≢◌, ◌⊎◌, inl, inr, ℕ, suc, Bool, true, false, not, ◌&&◌, List, [], ◌∷◌, filter, map, refl, sym, ◌∙◌, ap, subst, arith, bytes_eq}
use Rattle.std.specs.Prelude.{All}
use Rattle.std.specs.Cmp.{IsStrictWeakOrder}
use Rattle.std.specs.Cmp.Lexicographic.{slice_cmp}
use Rattle.std.specs.List.Sorted.{IsPermutation, IsSortedBy, IsStableBy, ties}
use Rattle.std.specs.Ordering.{nat_cmp, is_lt, is_eq, ordering_reverse}
use Rattle.std.proofs.lemmas.Cmp.{nat_list_cmp_total, tied_itself}
use Rattle.std.proofs.lemmas.List.Elements.{All-cons, filter_agree}
use Rattle.std.proofs.lemmas.List.MinMax.{ranks_by}
use Rattle.std.proofs.lemmas.List.Sorted.{All-permutation, sorted_far}
use Rattle.std.proofs.lemmas.Map.Text.{is_eq-slice_cmp}
use Rattle.std.proofs.lemmas.Slice.Eq.{bytes_eq-Decides}
use Rattle.decimal_rank.proofs.Lists.{pairs_map}
use Rattle.trec_formats.specs.declared.runs.RunLine.{RunLine}
use Rattle.trec_formats.specs.RunFormat.Groups.{topic_lt, AreByTopic}
use Rattle.trec_formats.specs.RunFormat.Lists.{lines_on}

tie_step : (o : Ordering) → (not (is_lt (ordering_reverse o)) && not (is_lt o)) ≡ is_eq o
tie_step Less = refl
tie_step Equal = refl
tie_step Greater = refl

-- neither topic is below the other where they are equal
pub tie : (s t : List ℕ) → (not (is_lt (slice_cmp nat_cmp s t)) && not (is_lt (slice_cmp nat_cmp t s))) ≡ bytes_eq t s
tie s t = rw (nat_list_cmp_total.antisymm s t) (tie_step (slice_cmp nat_cmp t s) ∙ is_eq-slice_cmp t s)

pub equal_topics : (s t : List ℕ) → is_lt (slice_cmp nat_cmp s t) ≡ false → is_lt (slice_cmp nat_cmp t s) ≡ false → s ≡ t
equal_topics s t first second =
    let is : bytes_eq t s ≡ true = sym (tie s t) ∙ rw (first, second) refl in
    sym ((bytes_eq-Decides t s).0 is)

above_step : (s t : List ℕ) (b : Bool) → is_lt (slice_cmp nat_cmp s t) ≡ b → is_lt (slice_cmp nat_cmp t s) ≡ false
    → (s ≢ t) → is_lt (slice_cmp nat_cmp s t) ≡ true
above_step s t true is second apart = is
above_step s t false is second apart = absurd (apart (equal_topics s t is second))

-- one of two topics that differ is below the other
pub is_above : (s t : List ℕ) → is_lt (slice_cmp nat_cmp t s) ≡ false → (s ≢ t) → is_lt (slice_cmp nat_cmp s t) ≡ true
is_above s t second apart = above_step s t (is_lt (slice_cmp nat_cmp s t)) refl second apart

module _ {X : Type 0} (f : X → RunLine) where
  abbrev pub line_lt : X → X → Bool
  line_lt a b = topic_lt (f a) (f b)

  pub line_lt_order : IsStrictWeakOrder line_lt
  line_lt_order = ranks_by nat_list_cmp_total (λ (a : X). (f a).topic)

  abbrev has : List ℕ → X → Bool
  has topic line = bytes_eq (f line).topic topic

  lines_step : (topic : List ℕ) (item : X) (items : List X) (t : Bool) → has topic item ≡ t → lines_on topic (map f items) ≡ map f (filter (has topic) items)
      → lines_on topic (map f (item ∷ items)) ≡ map f (filter (has topic) (item ∷ items))
  lines_step topic item items true is rest = rw (is, rest) refl
  lines_step topic item items false is rest = rw (is, rest) refl

  lines_on-map : (topic : List ℕ) (items : List X) → lines_on topic (map f items) ≡ map f (filter (has topic) items)
  lines_on-map topic [] = refl
  lines_on-map topic (item ∷ items) = lines_step topic item items (has topic item) refl (lines_on-map topic items)

  one_step : (topic : List ℕ) (item : X) (items : List X) (t : Bool) → has topic item ≡ t
      → (All (λ l. has topic l ≡ false) items ⊎ ((one : X) × ((f one).topic ≡ topic)))
      → All (λ l. has topic l ≡ false) (item ∷ items) ⊎ ((one : X) × ((f one).topic ≡ topic))
  one_step topic item items true is rest = inr (item, (bytes_eq-Decides _ _).0 is)
  one_step topic item items false is (inl none) = inl (All-cons (λ l. has topic l ≡ false) item items is none)
  one_step topic item items false is (inr one) = inr one

  -- no line of a topic, or one
  one_on : (topic : List ℕ) (items : List X) → All (λ l. has topic l ≡ false) items ⊎ ((one : X) × ((f one).topic ≡ topic))
  one_on topic [] = inl (λ k d within. absurd (omega (arith, within)))
  one_on topic (item ∷ items) = one_step topic item items (has topic item) refl (one_on topic items)

  none_left : (topic : List ℕ) (items : List X) → All (λ l. has topic l ≡ false) items → filter (has topic) items ≡ []
  none_left topic [] none = refl
  none_left topic (item ∷ items) none = rw (none 0 item (omega arith), none_left topic items (λ k d within. none (suc k) d (omega arith))) refl

  topic_of_one : (one : X) (old new : List X) → IsStableBy line_lt old new → lines_on (f one).topic (map f new) ≡ lines_on (f one).topic (map f old)
  topic_of_one one old new stable =
      let same = filter_agree (has (f one).topic) (ties line_lt one) (λ l. sym (tie (f one).topic (f l).topic)) in
      lines_on-map (f one).topic new ∙ ap (map f) (same new ∙ stable one ∙ sym (same old)) ∙ sym (lines_on-map (f one).topic old)

  on_topic : (topic : List ℕ) (old new : List X) → IsPermutation old new → IsStableBy line_lt old new
      → (All (λ l. has topic l ≡ false) old ⊎ ((one : X) × ((f one).topic ≡ topic))) → lines_on topic (map f new) ≡ lines_on topic (map f old)
  on_topic topic old new moved stable (inl none) =
      let gone : filter (has topic) new ≡ filter (has topic) old =
      none_left topic new (All-permutation (λ l. has topic l ≡ false) old new moved none) ∙ sym (none_left topic old none) in
      lines_on-map topic new ∙ ap (map f) gone ∙ sym (lines_on-map topic old)
  on_topic topic old new moved stable (inr one) = subst (λ t. lines_on t (map f new) ≡ lines_on t (map f old)) one.1 (topic_of_one one.0 old new stable)

  -- what a stable sort by topic leaves
  pub sorted_by_topic : (old new : List X) → IsPermutation old new → IsSortedBy line_lt new → IsStableBy line_lt old new → AreByTopic (map f old) (map f new)
  sorted_by_topic old new moved sorted stable = record {
    ascending = pairs_map f (λ a b. topic_lt b a ≡ false) new
        (λ i j d below within. sorted_far line_lt line_lt_order new sorted i j d (omega (arith, below)) within);
    same = λ topic. on_topic topic old new moved stable (one_on topic old);
  }

-- a topic is never below itself, as an order says it
pub tied_topic : (t : List ℕ) → slice_cmp nat_cmp t t ≡ Equal
tied_topic t = tied_itself nat_list_cmp_total t
