-- Two releases compare alike in either order.
use Rattle.std.proofs.Common.{◌≡◌, ℕ, ◌+◌, Bool, true, false, cond, not, ◌||◌, List, [], ◌∷◌, Option, Some, None, length, refl, sym, ap, ◌∙◌, arith, zero-add}
use Rattle.std.specs.Prelude.{bytes_eq, find}
use Rattle.std.specs.List.{cons_option}
use Rattle.std.specs.Option.{option_map}
use Rattle.std.proofs.lemmas.Bool.{and_parts, not-true}
use Rattle.std.proofs.lemmas.Slice.Eq.{bytes_eq-Decides}
use Rattle.decimal_rank.proofs.TruthValues.{bytes_eq-swap, first_of_neither, second_of_neither}
use Rattle.rulebook.specs.Spelling.{differ}
use Rattle.rulebook.specs.Words.{Text, contains_text}
use Rattle.rulebook.specs.declared.systems.System.{System}
use Rattle.rulebook.specs.Reports.Systems.{runs_of}
use Rattle.archive_reports.specs.Comparisons.{Maps, common_runs, count, count_pairs, map_in}

-- Sums

abbrev total : {X : Type 0} → (X → ℕ) → List X → ℕ
total f [] = 0
total f (x ∷ xs) = f x + total f xs

total-same : {X : Type 0} (f g : X → ℕ) (xs : List X) → ((x : X) → f x ≡ g x) → total f xs ≡ total g xs
total-same f g [] same = refl
total-same f g (x ∷ xs) same = ap (λ n. n + total f xs) (same x) ∙ ap (λ n. g x + n) (total-same f g xs same)

total-zero : {X : Type 0} (xs : List X) → total (λ (x : X). let n : ℕ = 0 in n) xs ≡ 0
total-zero [] = refl
total-zero (x ∷ xs) = let rest = total-zero xs in omega (arith, rest)

total-add : {X : Type 0} (f g : X → ℕ) (xs : List X) → total (λ x. f x + g x) xs ≡ total f xs + total g xs
total-add f g [] = refl
total-add f g (x ∷ xs) = let rest = total-add f g xs in omega (arith, rest)

-- a sum of sums, the inner one outside
exchange : {X Y : Type 0} (f : X → Y → ℕ) (xs : List X) (ys : List Y) → total (λ x. total (f x) ys) xs ≡ total (λ y. total (λ x. f x y) xs) ys
exchange f [] ys = sym (total-zero ys)
exchange f (x ∷ xs) ys = ap (λ n. total (f x) ys + n) (exchange f xs ys) ∙ sym (total-add (f x) (λ y. total (λ x. f x y) xs) ys)

count-total : {X : Type 0} (p : X → Bool) (xs : List X) → count p xs ≡ total (λ x. cond (p x) 1 0) xs
count-total p [] = refl
count-total p (x ∷ xs) = ap (λ n. cond (p x) 1 0 + n) (count-total p xs)

-- Names that differ

-- a name's term, looked for among names that differ
single : (names : List Text) (name : Text) (w : ℕ) → differ names ≡ true → total (λ m. cond (bytes_eq name m) w 0) names ≡ cond (contains_text names name) w 0
single [] name w differs = refl
single (first ∷ names) name w differs =
    let parts = and_parts (not (contains_text names first)) (differ names) differs in
    step (bytes_eq name first) refl (not-true (contains_text names first) parts.0) (single names name w parts.1)
  where
    step : (t : Bool) → bytes_eq name first ≡ t → contains_text names first ≡ false
        → total (λ m. cond (bytes_eq name m) w 0) names ≡ cond (contains_text names name) w 0
        → cond t w 0 + total (λ m. cond (bytes_eq name m) w 0) names ≡ cond (t || contains_text names name) w 0
    step true is absent rest =
        let none : contains_text names name ≡ false = ap (contains_text names) ((bytes_eq-Decides name first).0 is) ∙ absent in
        let zero : total (λ m. cond (bytes_eq name m) w 0) names ≡ 0 = rest ∙ ap (λ t. let n : ℕ = cond t w 0 in n) none in
        omega (arith, zero)
    step false is absent rest = zero-add (total (λ m. cond (bytes_eq name m) w 0) names) ∙ rest

-- a sum over names that differ is one over other names, where only names in both count
over_names : (names others : List Text) (w : Text → ℕ) → differ names ≡ true → differ others ≡ true
    → ((name : Text) → contains_text names name ≡ false → w name ≡ 0) → ((name : Text) → contains_text others name ≡ false → w name ≡ 0)
    → total w names ≡ total w others
over_names names others w first second out out_others =
    total-same w (λ n. total (λ m. cond (bytes_eq n m) (w n) 0) others) names (λ n. sym (single others n (w n) second ∙ counts others n out_others))
    ∙ exchange (λ n m. cond (bytes_eq n m) (w n) 0) names others
    ∙ total-same (λ m. total (λ n. cond (bytes_eq n m) (w n) 0) names) w others
    (λ m. total-same (λ n. cond (bytes_eq n m) (w n) 0) (λ n. cond (bytes_eq m n) (w m) 0) names (λ n. turned n m)
    ∙ single names m (w m) first ∙ counts names m out)
  where
    counts : (ns : List Text) (n : Text) → ((name : Text) → contains_text ns name ≡ false → w name ≡ 0) → cond (contains_text ns n) (w n) 0 ≡ w n
    counts ns n none = step (contains_text ns n) refl
      where
        step : (t : Bool) → contains_text ns n ≡ t → cond t (w n) 0 ≡ w n
        step true is = refl
        step false is = sym (none n is)

    turned : (n m : Text) → cond (bytes_eq n m) (w n) 0 ≡ cond (bytes_eq m n) (w m) 0
    turned n m = step (bytes_eq n m) refl
      where
        step : (t : Bool) → bytes_eq n m ≡ t → cond t (w n) 0 ≡ cond (bytes_eq m n) (w m) 0
        step true is = ap w ((bytes_eq-Decides n m).0 is) ∙ ap (λ t. let k : ℕ = cond t (w m) 0 in k) (sym (sym (bytes_eq-swap n m) ∙ is))
        step false is = ap (λ t. let k : ℕ = cond t (w m) 0 in k) (sym (sym (bytes_eq-swap n m) ∙ is))

-- The runs that both releases have

-- f of a run's two maps: 0 where it isn't in both
abbrev weigh : (Maps → ℕ) → Option ℕ → Option ℕ → ℕ
weigh f (Some x) (Some y) = f (x, y)
weigh f (Some x) None = 0
weigh f None other = 0

abbrev pub turn : Maps → Maps
turn maps = (maps.1, maps.0)

weigh-turned : (f : Maps → ℕ) (x y : Option ℕ) → weigh f x y ≡ weigh (λ maps. f (turn maps)) y x
weigh-turned f (Some x) (Some y) = refl
weigh-turned f (Some x) None = refl
weigh-turned f None (Some y) = refl
weigh-turned f None None = refl

no-map : (systems : List System) (name : Text) → contains_text (runs_of systems) name ≡ false → map_in systems name ≡ None
no-map [] name absent = refl
no-map (system ∷ systems) name absent = step (λ e. no-map systems name e) (bytes_eq name system.run) absent
  where
    step : (contains_text (runs_of systems) name ≡ false → map_in systems name ≡ None) → (t : Bool) → (t || contains_text (runs_of systems) name) ≡ false
        → option_map (λ (s : System). s.summary.map) (cond t (Some system) (find (λ s. bytes_eq name s.run) systems)) ≡ None
    step later true e = cc e
    step later false e = later e

-- each system of some has the map that a look-up by its run gives
abbrev Own : List System → List System → Type 0
Own systems [] = Unit {0}
Own systems (system ∷ some) = (map_in systems system.run ≡ Some system.summary.map) × Own systems some

own-behind : (first : System) (systems some : List System) → contains_text (runs_of some) first.run ≡ false → Own systems some → Own (first ∷ systems) some
own-behind first systems [] absent own = tt
own-behind first systems (system ∷ some) absent own =
    let apart : bytes_eq first.run system.run ≡ false = first_of_neither (bytes_eq first.run system.run) (contains_text (runs_of some) first.run) absent in (
      ap (λ t. option_map (λ (s : System). s.summary.map) (cond t (Some first) (find (λ s. bytes_eq system.run s.run) systems)))
          (sym (bytes_eq-swap first.run system.run) ∙ apart) ∙ own.0,
      own-behind first systems some (second_of_neither (bytes_eq first.run system.run) (contains_text (runs_of some) first.run) absent) own.1,
    )

own-maps : (systems : List System) → differ (runs_of systems) ≡ true → Own systems systems
own-maps [] differs = tt
own-maps (system ∷ systems) differs =
    let parts = and_parts (not (contains_text (runs_of systems) system.run)) (differ (runs_of systems)) differs in (
      ap (λ t. option_map (λ (s : System). s.summary.map) (cond t (Some system) (find (λ s. bytes_eq system.run s.run) systems)))
          ((bytes_eq-Decides system.run system.run).1 refl),
      own-behind system systems systems (not-true (contains_text (runs_of systems) system.run) parts.0) (own-maps systems parts.1),
    )

-- a sum over the runs that both have, as one over the names of the first
by-names : (f : Maps → ℕ) (systems others some : List System) → Own systems some
    → total f (common_runs some others) ≡ total (λ n. weigh f (map_in systems n) (map_in others n)) (runs_of some)
by-names f systems others [] own = refl
by-names f systems others (system ∷ some) own =
    step (map_in others system.run) (by-names f systems others some own.1)
    ∙ ap (λ found. weigh f found (map_in others system.run) + total (λ n. weigh f (map_in systems n) (map_in others n)) (runs_of some)) (sym own.0)
  where
    step : (found : Option ℕ) → total f (common_runs some others) ≡ total (λ n. weigh f (map_in systems n) (map_in others n)) (runs_of some)
        → total f (cons_option (option_map (λ map. (system.summary.map, map)) found) (common_runs some others))
        ≡ weigh f (Some system.summary.map) found + total (λ n. weigh f (map_in systems n) (map_in others n)) (runs_of some)
    step (Some found) rest = ap (λ n. f (system.summary.map, found) + n) rest
    step None rest = rest ∙ sym (zero-add (total (λ n. weigh f (map_in systems n) (map_in others n)) (runs_of some)))

module _ (a b : List System) (first : differ (runs_of a) ≡ true) (second : differ (runs_of b) ≡ true) where
  -- the runs that both have are the same, with their maps turned
  turned : (f : Maps → ℕ) → total f (common_runs a b) ≡ total (λ maps. f (turn maps)) (common_runs b a)
  turned f =
      by-names f a b a (own-maps a first)
      ∙ over_names (runs_of a) (runs_of b) (λ n. weigh f (map_in a n) (map_in b n)) first second
      (λ n absent. ap (λ found. weigh f found (map_in b n)) (no-map a n absent))
      (λ n absent. ap (λ found. weigh f (map_in a n) found) (no-map b n absent) ∙ to_none (map_in a n))
      ∙ total-same (λ n. weigh f (map_in a n) (map_in b n)) (λ n. weigh (λ maps. f (turn maps)) (map_in b n) (map_in a n)) (runs_of b)
      (λ n. weigh-turned f (map_in a n) (map_in b n))
      ∙ sym (by-names (λ maps. f (turn maps)) b a b (own-maps b second))
    where
      to_none : (found : Option ℕ) → weigh f found None ≡ 0
      to_none (Some x) = refl
      to_none None = refl

  pub same-common : length (common_runs a b) ≡ length (common_runs b a)
  same-common = sym (ones (common_runs a b)) ∙ turned (λ maps. 1) ∙ ones (common_runs b a)
    where
      ones : (xs : List Maps) → total (λ (maps : Maps). let n : ℕ = 1 in n) xs ≡ length xs
      ones [] = refl
      ones (x ∷ xs) = let rest = ones xs in omega (arith, rest)

  module _ (p : Maps → Maps → Bool) (symmetric : (x y : Maps) → p x y ≡ p y x) (apart : (x : Maps) → p x x ≡ false)
      (even : (x y : Maps) → p (turn x) (turn y) ≡ p x y) where
    -- each pair is counted twice where both orders count
    twice : (xs : List Maps) → total (λ x. count (p x) xs) xs ≡ count_pairs p xs + count_pairs p xs
    twice [] = refl
    twice (x ∷ xs) =
        let own : cond (p x x) 1 0 + count (p x) xs ≡ count (p x) xs =
        ap (λ t. let n : ℕ = cond t 1 0 + count (p x) xs in n) (apart x) ∙ zero-add (count (p x) xs) in
        let split : total (λ y. cond (p y x) 1 0 + count (p y) xs) xs ≡ total (λ y. cond (p y x) 1 0) xs + total (λ y. count (p y) xs) xs =
        total-add (λ y. cond (p y x) 1 0) (λ y. count (p y) xs) xs in
        let back : total (λ y. cond (p y x) 1 0) xs ≡ count (p x) xs =
        total-same (λ y. cond (p y x) 1 0) (λ y. cond (p x y) 1 0) xs (λ y. ap (λ t. let n : ℕ = cond t 1 0 in n) (symmetric y x))
        ∙ sym (count-total (p x) xs) in
        let rest = twice xs in
        omega (arith, own, split, back, rest)

    pub same-pairs : count_pairs p (common_runs a b) ≡ count_pairs p (common_runs b a)
    same-pairs =
        let both : count_pairs p (common_runs a b) + count_pairs p (common_runs a b) ≡ count_pairs p (common_runs b a) + count_pairs p (common_runs b a) =
        sym (twice (common_runs a b))
        ∙ turned (λ x. count (p x) (common_runs a b))
        ∙ total-same (λ x. count (p (turn x)) (common_runs a b)) (λ x. count (p x) (common_runs b a)) (common_runs b a) inner
        ∙ twice (common_runs b a) in
        omega (arith, both)
      where
        inner : (x : Maps) → count (p (turn x)) (common_runs a b) ≡ count (p x) (common_runs b a)
        inner x =
            count-total (p (turn x)) (common_runs a b)
            ∙ turned (λ y. cond (p (turn x) y) 1 0)
            ∙ total-same (λ y. cond (p (turn x) (turn y)) 1 0) (λ y. cond (p x y) 1 0) (common_runs b a) (λ y. ap (λ t. let n : ℕ = cond t 1 0 in n) (even x y))
            ∙ sym (count-total (p x) (common_runs b a))
