-- One seat of a hall gets another view: the rule stays where its own view, the words, the home and the top agree.
use Rattle.std.proofs.Common.{◌≡◌, ◌≢◌, ◌⊎◌, inl, inr, ⊎_elim, ℕ, zero, suc, ◌<◌, ◌≤◌, List, [], ◌∷◌, length, get_or, set, sym, ap, ◌∙◌, subst, arith, get_or-set_other, length-set}
use Rattle.std.specs.Prelude.{Option as Maybe, Some}
use Rattle.std.specs.List.{Contains}
use mathlib.Core.Option.{Option, some, none, some-injective, some-ne-none}
use mathlib.Core.Logic.{dite}
use native.Mathlib.Decide.{ℕ_discrete}
use lib.ListN.{get_elem?}
use Rattle.atomic_table.specs.Table.{State, Step, step}
use Rattle.atomic_table.proofs.Lists.{at_set, set_else}
use Rattle.hall.specs.declared.stories.Stage.{Stage}
use Rattle.hall.specs.declared.stories.Stage.TheVariants.{Idle, Took, Counted, Ended, Met, Spent}
use Rattle.hall.specs.declared.stories.Story.{Story}
use Rattle.hall.specs.declared.stories.StoryView.{StoryView}
use Rattle.hall.specs.Rule.{IsTurn, KeepsRule, Knows}
use Rattle.hall.specs.Stories.{AtMost}
use Rattle.hall.proofs.GrowingStories.{at_most_trans, starts_length}

pub bound : {A : Type 0} (l : List A) (i : ℕ) (a : A) → get_elem? l i ≡ some a → i < length l
bound [] i a is = absurd (some-ne-none a (sym is))
bound (x ∷ xs) zero a is = omega arith
bound (x ∷ xs) (suc i) a is = let h : i < length xs = bound xs i a is in omega arith

module _ {E : Type 0} where
  -- what a seat without the turn knows stays so where the top grows, whatever becomes of the turn
  pub others : (lock lock' holder holder' : ℕ) (top top' : Story E) (j : ℕ) (stage : Stage E) (seen : Story E)
      → AtMost top top' → (lock ≡ 1 → j ≢ holder) → lock ≢ 2
      → Knows lock holder top j stage seen → Knows lock' holder' top' j stage seen
  others lock lock' holder holder' top top' j Idle seen grown away open_ knows = at_most_trans seen top top' knows grown
  others lock lock' holder holder' top top' j (Took base) seen grown away open_ knows = absurd (away knows.0 knows.1)
  others lock lock' holder holder' top top' j Counted seen grown away open_ knows = absurd (away knows.0 knows.1)
  others lock lock' holder holder' top top' j Ended seen grown away open_ knows = absurd (open_ knows.0)
  others lock lock' holder holder' top top' j (Met a b xs ys) seen grown away open_ knows =
      (at_most_trans a top top' knows.0 grown, at_most_trans b top top' knows.1 grown, knows.2, at_most_trans seen top top' knows.3 grown)
  others lock lock' holder holder' top top' j Spent seen grown away open_ knows = knows

  -- no seat has seen more than the top
  pub seen_bound : (lock holder : ℕ) (top : Story E) (j : ℕ) (stage : Stage E) (seen : Story E)
      → Knows lock holder top j stage seen → length seen.list ≤ length top.list
  seen_bound lock holder top j Idle seen knows = starts_length seen.list top.list knows.0
  seen_bound lock holder top j (Took base) seen knows = starts_length seen.list top.list knows.3.0
  seen_bound lock holder top j Counted seen knows = let e : length seen.list ≡ length top.list = ap (λ (s : Story E). length s.list) knows.2 in omega arith
  seen_bound lock holder top j Ended seen knows = starts_length seen.list top.list knows.1.0
  seen_bound lock holder top j (Met a b xs ys) seen knows = starts_length seen.list top.list knows.3.0
  seen_bound lock holder top j Spent seen knows = let e : length seen.list ≡ 0 = ap (λ (l : List E). length l) knows in omega arith

module _ {B E : Type 0} (story : B → Story E) where
  abbrev pub St : Type 0
  St = State (Maybe B) (StoryView E)

  -- what a step was asked for says nothing here
  abbrev pub blank : Step (Maybe B)
  blank = step 0 0 0 0 none

  -- a seat gets the view w, and the words, the homes, the top and the holder change
  abbrev pub moved : (s : St) (r : KeepsRule story s) (id : ℕ) (v w : StoryView E) (words : List ℕ)
      (homes : List (Option (Maybe B))) (top : Story E) (holder : ℕ)
      → get_elem? s.views id ≡ some v
      → length words ≡ 2 → get_or words 1 0 ≡ length top.list
      → (get_or words 0 0 ≢ 1 → (value : B) × (get_elem? homes 0 ≡ some (some (Some value))) × (story value ≡ top))
      → (get_or words 0 0 ≡ 1 → (u : StoryView E) × (get_elem? (set s.views id w) holder ≡ some u) × IsTurn u.stage)
      → Knows (get_or words 0 0) holder top id w.stage w.seen
      → ((j : ℕ) (u : StoryView E) → j ≢ id → get_elem? s.views j ≡ some u → Knows (get_or words 0 0) holder top j u.stage u.seen)
      → ((p : ℕ) → Contains w.mine p → p ≤ length w.seen.list)
      → ((p : ℕ) → Contains w.mine p → Contains v.mine p ⊎ ((j : ℕ) (u : StoryView E) → get_elem? s.views j ≡ some u → Contains u.mine p → ⊥))
      → KeepsRule story record { words = words; homes = homes; views = set s.views id w }
  moved s r id v w words homes top holder here two counted at_home held own rest within fresh = record {
    top = top;
    holder = holder;
    two = two;
    counted = counted;
    at_home = at_home;
    held = held;
    each_seat = λ j u is. ⊎_elim
        (λ (t : (j ≡ id) × (w ≡ u)). subst (λ (k : ℕ). Knows (get_or words 0 0) holder top k u.stage u.seen) (sym t.0)
        (subst (λ (x : StoryView E). Knows (get_or words 0 0) holder top id x.stage x.seen) t.1 own))
        (λ (t : (j ≢ id) × (get_elem? s.views j ≡ some u)). rest j u t.0 t.1)
        (at_set s.views id j w u is);
    within = λ j u p is there. ⊎_elim
        (λ (t : (j ≡ id) × (w ≡ u)). subst (λ (x : StoryView E). p ≤ length x.seen.list) t.1
        (within p (subst (λ (x : StoryView E). Contains x.mine p) (sym t.1) there)))
        (λ (t : (j ≢ id) × (get_elem? s.views j ≡ some u)). r.within j u p t.1 there)
        (at_set s.views id j w u is);
    apart = λ i j t u p first second differ a b. two_seats i j t u p differ a b (at_set s.views id i w t first) (at_set s.views id j w u second);
  }
    where
      mine_and : (p j : ℕ) (u : StoryView E) → j ≢ id → get_elem? s.views j ≡ some u → Contains w.mine p → Contains u.mine p → ⊥
      mine_and p j u ne is a b =
          ⊎_elim (λ (old : Contains v.mine p). r.apart id j v u p here is (λ e. ne (sym e)) old b)
          (λ (new : (j : ℕ) (u : StoryView E) → get_elem? s.views j ≡ some u → Contains u.mine p → ⊥). new j u is b) (fresh p a)

      two_seats : (i j : ℕ) (t u : StoryView E) (p : ℕ) → i ≢ j → Contains t.mine p → Contains u.mine p
          → ((i ≡ id) × (w ≡ t)) ⊎ ((i ≢ id) × (get_elem? s.views i ≡ some t)) → ((j ≡ id) × (w ≡ u)) ⊎ ((j ≢ id) × (get_elem? s.views j ≡ some u)) → ⊥
      two_seats i j t u p differ a b (inl x) (inl y) = differ (x.0 ∙ sym y.0)
      two_seats i j t u p differ a b (inl x) (inr y) = mine_and p j u y.0 y.1 (subst (λ (z : StoryView E). Contains z.mine p) (sym x.1) a) b
      two_seats i j t u p differ a b (inr x) (inl y) = mine_and p i t x.0 x.1 (subst (λ (z : StoryView E). Contains z.mine p) (sym y.1) b) a
      two_seats i j t u p differ a b (inr x) (inr y) = r.apart i j t u p x.1 y.1 differ a b

  -- the holder of the turn still has it where a seat without it gets another view
  pub still_held : (s : St) (r : KeepsRule story s) (id : ℕ) (v w : StoryView E) → get_elem? s.views id ≡ some v → (IsTurn v.stage → ⊥)
      → get_or s.words 0 0 ≡ 1 → (u : StoryView E) × (get_elem? (set s.views id w) r.holder ≡ some u) × IsTurn u.stage
  still_held s r id v w here idles one = dite (ℕ_discrete r.holder id) own other
    where
      u : StoryView E
      u = (r.held one).0

      own : r.holder ≡ id → (u : StoryView E) × (get_elem? (set s.views id w) r.holder ≡ some u) × IsTurn u.stage
      own e =
          let same : v ≡ u = some-injective v u (sym here ∙ subst (λ (k : ℕ). get_elem? s.views k ≡ some u) e (r.held one).1) in
          absurd (idles (subst (λ (x : StoryView E). IsTurn x.stage) (sym same) (r.held one).2))

      other : r.holder ≢ id → (u : StoryView E) × (get_elem? (set s.views id w) r.holder ≡ some u) × IsTurn u.stage
      other ne = (u, set_else s.views id r.holder w ne ∙ (r.held one).1, (r.held one).2)

  pub idle_known : (s : St) (r : KeepsRule story s) (id : ℕ) (v : StoryView E) → get_elem? s.views id ≡ some v → v.stage ≡ Idle → AtMost v.seen r.top
  idle_known s r id v here is = subst (λ (g : Stage E). Knows (get_or s.words 0 0) r.holder r.top id g v.seen) is (r.each_seat id v here)

  pub first_word : (s : St) → KeepsRule story s → 0 < length s.words
  first_word s r = let e : length s.words ≡ 2 = r.two in omega arith

  pub second_word : (s : St) → KeepsRule story s → 1 < length s.words
  second_word s r = let e : length s.words ≡ 2 = r.two in omega arith

  -- the lock word changes, and the count stays
  pub count_stays : (s : St) (r : KeepsRule story s) (n : ℕ) → get_or (set s.words 0 n) 1 0 ≡ length r.top.list
  count_stays s r n = let ne : 1 ≢ 0 = omega arith in get_or-set_other s.words 0 1 n 0 ne ∙ r.counted

  pub two_stay : (s : St) (r : KeepsRule story s) (i n : ℕ) → length (set s.words i n) ≡ 2
  two_stay s r i n = length-set s.words i n ∙ r.two
