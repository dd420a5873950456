-- The live runs of a history by their numbers, and what one more entry makes of them.
use Rattle.std.proofs.Common.{◌≡◌, ◌≢◌, ◌||◌, ◌<◌, ◌≤◌, ◌+◌, ◌==◌, ℕ, suc, zero, Bool, true, false, cond, not, List, ◌++◌, ◌∷◌, [], Option, None, Some, filter, length, ltb, map, set, arith, eq-eqb, refl, sym, subst, ap, ◌∙◌}
use Rattle.std.specs.Prelude.{if◌then◌else◌, slice_get}
use Rattle.std.specs.List.{enumerate_from, flat_map, list_any, position, position_or_len}
use Rattle.std.specs.Option.{option_and_then}
use Rattle.std.specs.Str.{bytes_eq}
use Rattle.std.proofs.lemmas.Bool.{ne_eqb, not-true, and_parts}
use Rattle.std.proofs.lemmas.Bool.Decides.{nat_tests}
use Rattle.std.proofs.lemmas.List.Elements.{filter-append}
use Rattle.std.proofs.lemmas.List.Folds.{list_any-append}
use Rattle.std.proofs.lemmas.Slice.Eq.{bytes_eq-Decides}
use Rattle.std.proofs.Math.Bool.{or-true}
use Rattle.decimal_rank.proofs.TruthValues.{bytes_eq-swap}
use Rattle.decimal_rank.proofs.Lists.{enumerate-push, slice-last}
use Rattle.rulebook.specs.declared.entry.Entry.{Entry}
use Rattle.rulebook.specs.Words.{Text, contains_text}
use Rattle.depth_pool.specs.declared.runs.RunId.{RunId}
use Rattle.rulebook.specs.Campaign.{History, Run, docnos, is_withdrawn, live, numbered_runs, runs, submitted_docnos, withdraws}
use Rattle.rulebook.specs.Spelling.{differ}
use Rattle.campaign_core.specs.Numbering.Numbers.{are_named, names_of}
use Rattle.campaign_core.specs.Assessments.RunScores.{run_at, unless_withdrawn}
use Rattle.campaign_core.specs.Numbering.Submissions.{withdrawals}
use Rattle.campaign_core.proofs.Lists.Elements.{Each, all_back, all_front, each-all, each-filter, each-more, filter-each, filter-twice, map-set_one, slice-other}
use Rattle.campaign_core.proofs.Numbers.DocNumbers.{each_named}

-- Withdrawals.

or_none : (s t : Bool) → (s || (t || false)) ≡ (s || t)
or_none true t = refl
or_none false true = refl
or_none false false = refl

or_false : (s t : Bool) → t ≡ false → (s || t) ≡ s
or_false true t none = refl
or_false false t none = none

pub withdrawn-push : (H : History) (e : Entry) (name : Text)
    → is_withdrawn (H ++ e ∷ []) name ≡ (is_withdrawn H name || withdraws name e.core.command)
withdrawn-push H e name = list_any-append (λ (e : Entry). withdraws name e.core.command) H (e ∷ [])
    ∙ or_none (is_withdrawn H name) (withdraws name e.core.command)

-- the same runs are withdrawn after an entry that withdraws none
pub none-withdrawn : (H : History) (e : Entry) → ((name : Text) → withdraws name e.core.command ≡ false)
    → (name : Text) → is_withdrawn (H ++ e ∷ []) name ≡ is_withdrawn H name
none-withdrawn H e none name = withdrawn-push H e name
    ∙ or_false (is_withdrawn H name) (withdraws name e.core.command) (none name)

-- The live runs after an entry that leaves them, that submits one more, or that withdraws one.

abbrev gone : History → ℕ × Run → Bool
gone H p = is_withdrawn H p.1.name

module _ (H J : History) where
  pub numbered-stays : runs J ≡ runs H → ((name : Text) → is_withdrawn J name ≡ is_withdrawn H name)
      → numbered_runs J ≡ numbered_runs H
  numbered-stays runs_are withdrawn_are =
      filter-each (λ p. not (gone J p)) (λ p. not (gone H p)) (enumerate_from 0 (runs J)) (each-all _ _ (λ p. ap not (withdrawn_are p.1.name)))
      ∙ ap (λ (rs : List Run). filter (λ p. not (gone H p)) (enumerate_from 0 rs)) runs_are

  pub numbered-more : (run : Run) → runs J ≡ runs H ++ run ∷ []
      → ((name : Text) → is_withdrawn J name ≡ is_withdrawn H name) → is_withdrawn H run.name ≡ false
      → numbered_runs J ≡ numbered_runs H ++ (length (runs H), run) ∷ []
  numbered-more run runs_are withdrawn_are live =
      let passes : ℕ × Run → Bool = λ p. not (gone H p) in
      filter-each (λ p. not (gone J p)) passes (enumerate_from 0 (runs J)) (each-all _ _ (λ p. ap not (withdrawn_are p.1.name)))
      ∙ ap (λ (rs : List Run). filter passes (enumerate_from 0 rs)) runs_are
      ∙ ap (filter passes) (enumerate-push 0 (runs H) run)
      ∙ filter-append passes (enumerate_from 0 (runs H)) ((0 + length (runs H), run) ∷ [])
      ∙ ap (λ t. numbered_runs H ++ cond (not t) ((0 + length (runs H), run) ∷ []) []) live
      ∙ ap (λ n. numbered_runs H ++ (n, run) ∷ []) (let e : 0 + length (runs H) ≡ length (runs H) = omega arith in e)

  numbered-without : (name : Text) → runs J ≡ runs H
      → ((other : Text) → is_withdrawn J other ≡ (is_withdrawn H other || bytes_eq name other))
      → numbered_runs J ≡ filter (λ p. not (bytes_eq name p.1.name)) (numbered_runs H)
  numbered-without name runs_are withdrawn_are =
      filter-each (λ p. not (gone J p)) (λ p. not (gone H p || bytes_eq name p.1.name)) (enumerate_from 0 (runs J))
      (each-all _ _ (λ p. ap not (withdrawn_are p.1.name)))
      ∙ ap (λ (rs : List Run). filter (λ p. not (gone H p || bytes_eq name p.1.name)) (enumerate_from 0 rs)) runs_are
      ∙ filter-twice (gone H) (λ p. bytes_eq name p.1.name) (enumerate_from 0 (runs H))

-- The numbers of live runs.

-- each number is less than those behind it
abbrev pub Ascends : List (ℕ × Run) → Type 0
Ascends [] = Unit {0}
Ascends (p ∷ ps) = Each (λ q. p.0 < q.0) ps × Ascends ps

above : (n m : ℕ) (rs : List Run) → n < m → Each (λ p. n < p.0) (enumerate_from m rs)
above n m [] less = tt
above n m (r ∷ rs) less = (less, above n (m + 1) rs (omega (arith, less)))

enumerate-ascends : (n : ℕ) (rs : List Run) → Ascends (enumerate_from n rs)
enumerate-ascends n [] = tt
enumerate-ascends n (r ∷ rs) = (above n (n + 1) rs (omega arith), enumerate-ascends (n + 1) rs)

filter-ascends : (p : ℕ × Run → Bool) (ps : List (ℕ × Run)) → Ascends ps → Ascends (filter p ps)
filter-ascends p [] up = tt
filter-ascends p (q ∷ ps) up = step (p q) (filter-ascends p ps up.1)
  where
    step : (t : Bool) → Ascends (filter p ps) → Ascends (cond t (q ∷ filter p ps) (filter p ps))
    step true rest = (each-filter (λ (r : ℕ × Run). q.0 < r.0) p ps up.0, rest)
    step false rest = rest

pub numbered-ascends : (H : History) → Ascends (numbered_runs H)
numbered-ascends H = filter-ascends (λ p. not (gone H p)) (enumerate_from 0 (runs H)) (enumerate-ascends 0 (runs H))

enumerate-below : (n m : ℕ) (rs : List Run) → n + length rs ≤ m → Each (λ p. p.0 < m) (enumerate_from n rs)
enumerate-below n m [] fits = tt
enumerate-below n m (r ∷ rs) fits = (omega (arith, fits), enumerate-below (n + 1) m rs (omega (arith, fits)))

-- they are below the next number
pub numbered-below : (H : History) → Each (λ p. p.0 < length (runs H)) (numbered_runs H)
numbered-below H =
    each-filter (λ (p : ℕ × Run). p.0 < length (runs H)) (λ p. not (gone H p)) (enumerate_from 0 (runs H))
    (enumerate-below 0 (length (runs H)) (runs H) (omega arith))

-- The docnos of live runs are among the names.

each-named : (names : List Text) (n : ℕ) (rs : List Run)
    → are_named names (flat_map (λ run. docnos run.lists) rs) ≡ true
    → Each (λ p. are_named names (docnos p.1.lists) ≡ true) (enumerate_from n rs)
each-named names n [] named = tt
each-named names n (r ∷ rs) named = (
  all_front (contains_text names) (docnos r.lists) (flat_map (λ run. docnos run.lists) rs) named,
  each-named names (n + 1) rs (all_back (contains_text names) (docnos r.lists) (flat_map (λ run. docnos run.lists) rs) named),
)

pub numbered-named : (H : History) → Each (λ p. are_named (names_of H) (docnos p.1.lists) ≡ true) (numbered_runs H)
numbered-named H =
    each-filter (λ (p : ℕ × Run). are_named (names_of H) (docnos p.1.lists) ≡ true) (λ p. not (gone H p)) (enumerate_from 0 (runs H))
    (each-named (names_of H) 0 (runs H) (each_named (submitted_docnos H)))

-- Where no two runs have one name, a name has one number.

equal : (a b : ℕ) → a ≡ b → true ≡ (a == b)
equal a b same = sym (eq-eqb a b same)

unequal : (a b : ℕ) → a < b → false ≡ (a == b)
unequal a b less = grind (arith, nat_tests)

unequal_back : (a b : ℕ) → a < b → false ≡ (b == a)
unequal_back a b less = grind (arith, nat_tests)

other-name : (name : Text) (m n : ℕ) (rs : List Run) → n < m
    → contains_text (map (λ (run : Run). run.name) rs) name ≡ false
    → Each (λ p. bytes_eq name p.1.name ≡ (p.0 == n)) (enumerate_from m rs)
other-name name m n [] less absent = tt
other-name name m n (r ∷ rs) less absent = step (bytes_eq name r.name) absent (λ absent. other-name name (m + 1) n rs (omega (arith, less)) absent)
  where
    step : (t : Bool) → (t || contains_text (map (λ (run : Run). run.name) rs) name) ≡ false
        → (contains_text (map (λ (run : Run). run.name) rs) name ≡ false
        → Each (λ p. bytes_eq name p.1.name ≡ (p.0 == n)) (enumerate_from (m + 1) rs))
        → (t ≡ (m == n)) × Each (λ p. bytes_eq name p.1.name ≡ (p.0 == n)) (enumerate_from (m + 1) rs)
    step true absent rest = cc absent
    step false absent rest = (unequal_back n m less, rest absent)

abbrev pub name_place : Text → List Run → ℕ
name_place name rs = position_or_len (bytes_eq name) (map (λ (run : Run). run.name) rs)

name-number : (name : Text) (k n : ℕ) (rs : List Run) → differ (map (λ (run : Run). run.name) rs) ≡ true
    → n ≡ k + name_place name rs → Each (λ p. bytes_eq name p.1.name ≡ (p.0 == n)) (enumerate_from k rs)
name-number name k n [] differs is = tt
name-number name k n (r ∷ rs) differs is = step (bytes_eq name r.name) refl is (λ later. name-number name (k + 1) n rs parts.1 later)
  where
    parts : (not (contains_text (map (λ (run : Run). run.name) rs) r.name) ≡ true)
        × (differ (map (λ (run : Run). run.name) rs) ≡ true)
    parts = and_parts (not (contains_text (map (λ (run : Run). run.name) rs) r.name)) (differ (map (λ (run : Run). run.name) rs)) differs

    step : (t : Bool) → bytes_eq name r.name ≡ t → n ≡ k + cond (not t) (1 + name_place name rs) 0
        → (n ≡ k + 1 + name_place name rs → Each (λ p. bytes_eq name p.1.name ≡ (p.0 == n)) (enumerate_from (k + 1) rs))
        → (t ≡ (k == n)) × Each (λ p. bytes_eq name p.1.name ≡ (p.0 == n)) (enumerate_from (k + 1) rs)
    step true same here rest =
        let name_is : r.name ≡ name = sym ((bytes_eq-Decides name r.name).0 same) in
        let place : n ≡ k = here ∙ omega arith in (
          equal k n (sym place),
          other-name name (k + 1) n rs (omega (arith, place))
              (ap (contains_text (map (λ (run : Run). run.name) rs)) (sym name_is) ∙ not-true _ parts.0),
        )
    step false same later rest = (unequal k n (omega (arith, later)), rest (omega (arith, later)))

-- the live runs once that of a name is withdrawn
pub numbered-fewer : (H J : History) (name : Text) (n : ℕ) → runs J ≡ runs H
    → ((other : Text) → is_withdrawn J other ≡ (is_withdrawn H other || bytes_eq name other))
    → differ (map (λ (run : Run). run.name) (runs H)) ≡ true → n ≡ name_place name (runs H)
    → numbered_runs J ≡ filter (λ p. not (p.0 == n)) (numbered_runs H)
numbered-fewer H J name n runs_are withdrawn_are differs is =
    numbered-without H J name runs_are withdrawn_are
    ∙ filter-each (λ p. not (bytes_eq name p.1.name)) (λ p. not (p.0 == n)) (numbered_runs H)
    (each-more (λ (p : ℕ × Run). bytes_eq name p.1.name ≡ (p.0 == n)) (λ p. not (bytes_eq name p.1.name) ≡ not (p.0 == n))
    (numbered_runs H) (λ p same. ap not same)
    (each-filter (λ (p : ℕ × Run). bytes_eq name p.1.name ≡ (p.0 == n)) (λ p. not (gone H p)) (enumerate_from 0 (runs H))
    (name-number name 0 n (runs H) differs (is ∙ omega arith))))

-- A live run is there by its number.

live-among : (away : Text → Bool) (rs : List Run) (k n m : ℕ) (run : Run) → slice_get rs n ≡ Some run
    → away run.name ≡ false → m ≡ k + n
    → list_any (λ p. p.0 == m) (filter (λ p. not (away p.1.name)) (enumerate_from k rs)) ≡ true
live-among away [] k n m run there live is = cc there
live-among away (r ∷ rs) k zero m run there live is =
    let same : r ≡ run = cc there in
    let head : away r.name ≡ false = ap (λ (r : Run). away r.name) same ∙ live in
    let first : (k == m) ≡ true = eq-eqb k m (omega (arith, is)) in
    let rest : List (ℕ × Run) = filter (λ p. not (away p.1.name)) (enumerate_from (k + 1) rs) in
    ap (λ t. list_any (λ (p : ℕ × Run). p.0 == m) (cond (not t) ((k, r) ∷ rest) rest)) head
    ∙ ap (λ t. t || list_any (λ (p : ℕ × Run). p.0 == m) rest) first
live-among away (r ∷ rs) k (suc n) m run there live is = step (away r.name) (live-among away rs (k + 1) n m run there live (omega (arith, is)))
  where
    rest : List (ℕ × Run)
    rest = filter (λ p. not (away p.1.name)) (enumerate_from (k + 1) rs)

    step : (t : Bool) → list_any (λ (p : ℕ × Run). p.0 == m) rest ≡ true
        → list_any (λ (p : ℕ × Run). p.0 == m) (cond (not t) ((k, r) ∷ rest) rest) ≡ true
    step true there = there
    step false there = ap (λ t. (k == m) || t) there ∙ or-true (k == m)

pub live-there : (H : History) (n : ℕ) (run : Run) → slice_get (runs H) n ≡ Some run → is_withdrawn H run.name ≡ false
    → list_any (λ p. p.0 == n) (numbered_runs H) ≡ true
live-there H n run there live = live-among (is_withdrawn H) (runs H) 0 n n run there live (omega arith)

-- what holds of each numbered run holds of the run at a place
each-at : (P : ℕ × Run → Type 0) (k n : ℕ) (rs : List Run) (i : ℕ) (run : Run) → Each P (enumerate_from k rs)
    → slice_get rs i ≡ Some run → n ≡ k + i → P (n, run)
each-at P k n [] i run all there is = cc there
each-at P k n (r ∷ rs) zero run all there is =
    let same : r ≡ run = cc there in
    let number : k ≡ n = omega (arith, is) in
    subst (λ (m : ℕ). P (m, run)) number (subst (λ (r : Run). P (k, r)) same all.0)
each-at P k n (r ∷ rs) (suc i) run all there is = each-at P (k + 1) n rs i run all.1 there (omega (arith, is))

-- The live run of a number.

-- the run of a number is live
pub record IsLive (H : History) (number : RunId) (run : Run) : Type 0 where
  pub there : slice_get (runs H) number.0 ≡ Some run
  pub live : is_withdrawn H run.name ≡ false

pub live-at : (H : History) (number : RunId) (run : Run) → run_at H number ≡ Some run → IsLive H number run
live-at H number run is = step (slice_get (runs H) number.0) refl is
  where
    step : (o : Option Run) → slice_get (runs H) number.0 ≡ o → option_and_then (unless_withdrawn H) o ≡ Some run
        → IsLive H number run
    step None there is = cc is
    step (Some r) there is = inner (is_withdrawn H r.name) refl is
      where
        inner : (t : Bool) → is_withdrawn H r.name ≡ t → (if t then None else Some r) ≡ Some run → IsLive H number run
        inner true away is = cc is
        inner false stays is = let same : r ≡ run = cc is in record {
          there = there
              ∙ ap (λ (r : Run). let o : Option Run = Some r in o) same;
          live = ap (λ (r : Run). is_withdrawn H r.name) (sym same) ∙ stays;
        }

pub at-live : (H : History) (number : RunId) (run : Run) → slice_get (runs H) number.0 ≡ Some run
    → is_withdrawn H run.name ≡ false → run_at H number ≡ Some run
at-live H number run there live = ap (option_and_then (unless_withdrawn H)) there
    ∙ ap (λ t. if t then None else Some run) live

module _ (H J : History) where
  same-there : ((name : Text) → is_withdrawn J name ≡ is_withdrawn H name) → (o : Option Run)
      → option_and_then (unless_withdrawn J) o ≡ option_and_then (unless_withdrawn H) o
  same-there withdrawn_are None = refl
  same-there withdrawn_are (Some run) = ap (λ t. if t then None else Some run) (withdrawn_are run.name)

  pub run-at-stays : runs J ≡ runs H → ((name : Text) → is_withdrawn J name ≡ is_withdrawn H name) → (number : RunId)
      → run_at J number ≡ run_at H number
  run-at-stays runs_are withdrawn_are number =
      ap (λ (rs : List Run). option_and_then (unless_withdrawn J) (slice_get rs number.0)) runs_are
      ∙ same-there withdrawn_are (slice_get (runs H) number.0)

  -- the runs that were there are live as before
  pub run-at-others : (run : Run) → runs J ≡ runs H ++ run ∷ []
      → ((name : Text) → is_withdrawn J name ≡ is_withdrawn H name) → (number : RunId) → number.0 ≢ length (runs H)
      → run_at J number ≡ run_at H number
  run-at-others run runs_are withdrawn_are number other =
      ap (λ (rs : List Run). option_and_then (unless_withdrawn J) (slice_get rs number.0)) runs_are
      ∙ ap (option_and_then (unless_withdrawn J)) (slice-other (runs H) run number.0 other)
      ∙ same-there withdrawn_are (slice_get (runs H) number.0)

  -- the one that enters is live
  pub run-at-last : (run : Run) → runs J ≡ runs H ++ run ∷ []
      → ((name : Text) → is_withdrawn J name ≡ is_withdrawn H name) → is_withdrawn H run.name ≡ false
      → (number : RunId) → number.0 ≡ length (runs H) → run_at J number ≡ Some run
  run-at-last run runs_are withdrawn_are live number is =
      at-live J number run (ap (λ (rs : List Run). slice_get rs number.0) runs_are
      ∙ ap (slice_get (runs H ++ run ∷ [])) is ∙ slice-last (runs H) run) (withdrawn_are run.name ∙ live)

  -- Once the run of a name is withdrawn.
  module _ (name : Text) (n : ℕ) (runs_are : runs J ≡ runs H) (withdrawn_are : (other : Text)
      → is_withdrawn J other ≡ (is_withdrawn H other || bytes_eq name other))
      (differs : differ (map (λ (run : Run). run.name) (runs H)) ≡ true) (is : n ≡ name_place name (runs H)) where
    named-there : (i : ℕ) (run : Run) → slice_get (runs H) i ≡ Some run → bytes_eq name run.name ≡ (i == n)
    named-there i run there =
        each-at (λ p. bytes_eq name p.1.name ≡ (p.0 == n)) 0 i (runs H) i run (name-number name 0 n (runs H) differs (is ∙ omega arith)) there (omega arith)

    withdrawn-there : (i : ℕ) (run : Run) → slice_get (runs H) i ≡ Some run
        → is_withdrawn J run.name ≡ (is_withdrawn H run.name || (i == n))
    withdrawn-there i run there = withdrawn_are run.name
        ∙ ap (λ t. is_withdrawn H run.name || t) (named-there i run there)

    pub run-at-gone : (number : RunId) → number.0 ≡ n → run_at J number ≡ None
    run-at-gone number same =
        ap (λ (rs : List Run). option_and_then (unless_withdrawn J) (slice_get rs number.0)) runs_are ∙ step (slice_get (runs H) number.0) refl
      where
        step : (o : Option Run) → slice_get (runs H) number.0 ≡ o → option_and_then (unless_withdrawn J) o ≡ None
        step None there = refl
        step (Some run) there =
            let away : is_withdrawn J run.name ≡ true = withdrawn-there number.0 run there
            ∙ ap (λ t. is_withdrawn H run.name || t) (eq-eqb number.0 n same) ∙ or-true (is_withdrawn H run.name) in
            ap (λ t. let o : Option Run = if t then None else Some run in o) away

    pub run-at-left : (number : RunId) → number.0 ≢ n → run_at J number ≡ run_at H number
    run-at-left number other =
        ap (λ (rs : List Run). option_and_then (unless_withdrawn J) (slice_get rs number.0)) runs_are ∙ step (slice_get (runs H) number.0) refl
      where
        step : (o : Option Run) → slice_get (runs H) number.0 ≡ o
            → option_and_then (unless_withdrawn J) o ≡ option_and_then (unless_withdrawn H) o
        step None there = refl
        step (Some run) there =
            ap (λ t. if t then None else Some run) (withdrawn-there number.0 run there
            ∙ or_false (is_withdrawn H run.name) (number.0 == n) (ne_eqb number.0 n other))

    -- which runs were withdrawn, by number
    pub withdrawals-set : withdrawals J ≡ set (withdrawals H) n true
    withdrawals-set =
        ap (map (λ (run : Run). is_withdrawn J run.name)) runs_are
        ∙ map-set_one (λ (run : Run). is_withdrawn J run.name) (λ (run : Run). is_withdrawn H run.name) (runs H) n
        (λ i run there same. withdrawn-there i run there ∙ ap (λ t. is_withdrawn H run.name || t) (eq-eqb i n same)
        ∙ or-true (is_withdrawn H run.name))
        (λ i run there other. withdrawn-there i run there
        ∙ or_false (is_withdrawn H run.name) (i == n) (ne_eqb i n other))

-- the place of the first run of a name
pub number-place : (H : History) (name : Text) (n : ℕ)
    → Some n ≡ position (λ (run : Run). bytes_eq run.name name) (runs H) → n ≡ name_place name (runs H)
number-place H name n is = step (ltb (position_or_len test (runs H)) (length (runs H))) is
  where
    test : Run → Bool
    test run = bytes_eq run.name name

    same-place : (rs : List Run) → position_or_len test rs ≡ name_place name rs
    same-place [] = refl
    same-place (r ∷ rs) =
        ap (λ b. cond (not b) (1 + position_or_len test rs) 0) (bytes_eq-swap r.name name)
        ∙ ap (λ m. cond (not (bytes_eq name r.name)) (1 + m) 0) (same-place rs)

    step : (t : Bool) → Some n ≡ cond t (Some (position_or_len test (runs H))) None → n ≡ name_place name (runs H)
    step true some = let same : n ≡ position_or_len test (runs H) = cc some in same ∙ same-place (runs H)
    step false none = cc none
