-- How the documents of each topic are judged, one line after another.
use Rattle.std.proofs.Common.{◌≡◌, ◌≢◌, ◌<◌, ◌≤◌, ◌+◌, ℕ, suc, Bool, true, false, cond, leb, ltb, ltb-true, ◌&&◌, ◌||◌, List, [], ◌∷◌, ◌++◌, not, add-zero, length, map, take, set, get_or, refl, sym, ap, ◌∙◌, subst, arith, Some, bytes_eq}
use Rattle.std.specs.Prelude.{All, AllPairs, if◌then◌else◌}
use Rattle.std.specs.List.{IsDistinct, list_any, position_or_len}
use Rattle.std.proofs.lemmas.Bool.{false_from_ne_true, or_parts}
use Rattle.std.proofs.lemmas.Bool.Decides.{nat_tests}
use Rattle.std.proofs.lemmas.List.{take_more, map-append, length-take, length-map}
use Rattle.std.proofs.lemmas.List.Folds.{list_any-append}
use Rattle.std.proofs.lemmas.List.Sums.{sum_by_push, count_by-le-length}
use Rattle.std.proofs.lemmas.Map.Made.{AllPairs-from_IsDistinct}
use Rattle.std.proofs.lemmas.Option.{cond_some}
use Rattle.std.proofs.lemmas.Slice.Eq.{bytes_eq-Decides}
use Rattle.decimal_rank.specs.Names.{number_of, with_name}
use Rattle.trec_formats.specs.declared.qrels.QrelLine.{QrelLine}
use Rattle.eval.specs.declared.judgements.Tally.{Tally}
use Rattle.eval.specs.Evaluations.{non_relevant_on, relevant_level, relevant_on, topics_of}
use Rattle.eval.specs.Tables.{no_tally, tally_more, tally_on}
use Rattle.eval.proofs.Topics.{topics_of-more}

-- ---- one more line of a topic

abbrev tally : ℕ → ℕ → Tally
tally relevant others = record { relevant = relevant; others = others }

graded_step : (r o grade : ℕ) (low : Bool) → leb relevant_level grade ≡ low → ltb grade relevant_level ≡ not low
    → tally (r + cond (leb relevant_level grade) 1 0) (o + cond (ltb grade relevant_level) 1 0) ≡ tally_more (tally r o) grade
graded_step r o grade true p q = rw (p, q) (ap (tally (r + 1)) (add-zero o))
graded_step r o grade false p q = rw (p, q) (ap (λ n. tally n (o + 1)) (add-zero r))

below_level : (grade : ℕ) → ltb grade relevant_level ≡ not (leb relevant_level grade)
below_level grade = grind (arith, nat_tests)

abbrev is_high : List ℕ → QrelLine → Bool
is_high topic line = bytes_eq line.topic topic && leb relevant_level line.grade

abbrev is_low : List ℕ → QrelLine → Bool
is_low topic line = bytes_eq line.topic topic && ltb line.grade relevant_level

both_counted : (lines : List QrelLine) (line : QrelLine) (topic : List ℕ)
    → tally_on (lines ++ line ∷ []) topic
    ≡ tally (relevant_on lines topic + cond (is_high topic line) 1 0) (non_relevant_on lines topic + cond (is_low topic line) 1 0)
both_counted lines line topic =
    ap (λ n. tally n (non_relevant_on (lines ++ line ∷ []) topic)) (sum_by_push (λ l. cond (is_high topic l) 1 0) lines line)
    ∙ ap (tally (relevant_on lines topic + cond (is_high topic line) 1 0)) (sum_by_push (λ l. cond (is_low topic l) 1 0) lines line)

-- a line of the topic, and of another
counted : (lines : List QrelLine) (line : QrelLine) (topic : List ℕ) → bytes_eq line.topic topic ≡ true
    → tally_on (lines ++ line ∷ []) topic ≡ tally_more (tally_on lines topic) line.grade
counted lines line topic is =
    both_counted lines line topic
    ∙ rw is (graded_step (relevant_on lines topic) (non_relevant_on lines topic) line.grade (leb relevant_level line.grade) refl (below_level line.grade))

passed_over : (lines : List QrelLine) (line : QrelLine) (topic : List ℕ) → bytes_eq line.topic topic ≡ false
    → tally_on (lines ++ line ∷ []) topic ≡ tally_on lines topic
passed_over lines line topic is =
    both_counted lines line topic
    ∙ rw is (ap (λ n. tally n (non_relevant_on lines topic + 0)) (add-zero (relevant_on lines topic))
    ∙ ap (tally (relevant_on lines topic)) (add-zero (non_relevant_on lines topic)))

other_topic : (line : QrelLine) (topic : List ℕ) → topic ≢ line.topic → bytes_eq line.topic topic ≡ false
other_topic line topic other = false_from_ne_true _ (λ same. other (sym ((bytes_eq-Decides _ _).0 same)))

same_topic : (line : QrelLine) → bytes_eq line.topic line.topic ≡ true
same_topic line = (bytes_eq-Decides line.topic line.topic).1 refl

-- ---- a list of values by topic, of which one changes

module _ (f g : List ℕ → Tally) (topic : List ℕ) (others : (other : List ℕ) → other ≢ topic → f other ≡ g other) where
  unchanged : (names : List (List ℕ)) → All (λ other. other ≢ topic) names → map f names ≡ map g names
  unchanged [] apart = refl
  unchanged (name ∷ names) apart =
      ap (λ t. t ∷ map f names) (others name (apart 0 name (omega arith)))
      ∙ ap (λ ts. g name ∷ ts) (unchanged names (λ k d within. apart (suc k) d (omega (arith, within))))

  abbrev place_in : List (List ℕ) → ℕ
  place_in names = position_or_len (bytes_eq topic) names

  change_step : (name : List ℕ) (names : List (List ℕ)) (t : Bool) → bytes_eq topic name ≡ t
      → AllPairs (λ a b. a ≢ b) (name ∷ names) → place_in (name ∷ names) < length (name ∷ names)
      → (place_in names < length names → set (map f names) (place_in names) (g topic) ≡ map g names)
      → set (map f (name ∷ names)) (place_in (name ∷ names)) (g topic) ≡ map g (name ∷ names)
  change_step name names true is apart there rest =
      let here : place_in (name ∷ names) ≡ 0 = rw is refl in
      let same : topic ≡ name = (bytes_eq-Decides topic name).0 is in
      rw here (ap (λ t. g t ∷ map f names) same
      ∙ ap (λ ts. g name ∷ ts) (unchanged names (λ k d within again. apart 0 (suc k) d (omega arith) (omega (arith, within)) (sym (again ∙ same)))))
  change_step name names false is apart there rest =
      let here : place_in (name ∷ names) ≡ suc (place_in names) = rw is (omega arith) in
      let other : name ≢ topic = λ same. let yes : bytes_eq topic name ≡ true = (bytes_eq-Decides topic name).1 (sym same) in cc (yes, is) in
      rw here (ap (λ t. t ∷ set (map f names) (place_in names) (g topic)) (others name other) ∙ ap (λ ts. g name ∷ ts) (rest (omega (arith, here, there))))

  changed : (names : List (List ℕ)) → AllPairs (λ a b. a ≢ b) names → place_in names < length names → set (map f names) (place_in names) (g topic) ≡ map g names
  changed [] apart there = absurd (omega (arith, there))
  changed (name ∷ names) apart there =
      change_step name names (bytes_eq topic name) refl apart there
      (changed names (λ i j d below within. apart (suc i) (suc j) d (omega arith) (omega (arith, within))))

  value_step : (name : List ℕ) (names : List (List ℕ)) (d : Tally) (t : Bool) → bytes_eq topic name ≡ t → place_in (name ∷ names) < length (name ∷ names)
      → (place_in names < length names → get_or (map f names) (place_in names) d ≡ f topic)
      → get_or (map f (name ∷ names)) (place_in (name ∷ names)) d ≡ f topic
  value_step name names d true is there rest =
      let here : place_in (name ∷ names) ≡ 0 = rw is refl in
      rw here (ap f (sym ((bytes_eq-Decides topic name).0 is)))
  value_step name names d false is there rest =
      let here : place_in (name ∷ names) ≡ suc (place_in names) = rw is (omega arith) in
      rw here (rest (omega (arith, here, there)))

  value_at : (names : List (List ℕ)) (d : Tally) → place_in names < length names → get_or (map f names) (place_in names) d ≡ f topic
  value_at [] d there = absurd (omega (arith, there))
  value_at (name ∷ names) d there = value_step name names d (bytes_eq topic name) refl there (value_at names d)

-- ---- all topics

-- the topics of these lines have these tallies, in their order
pub record AreTallied (lines : List QrelLine) (topics : List (List ℕ)) (tallies : List Tally) : Type 0 where
  pub topics_are : topics ≡ topics_of lines
  pub tallies_are : tallies ≡ map (tally_on lines) topics
  pub absent : (topic : List ℕ) → list_any (bytes_eq topic) topics ≡ false → tally_on lines topic ≡ no_tally

pub none_tallied : (topics : List (List ℕ)) (tallies : List Tally) → topics ≡ [] → tallies ≡ [] → AreTallied [] topics tallies
none_tallied topics tallies no_topics none = record { topics_are = no_topics; tallies_are = rw (no_topics, none) refl; absent = λ topic gone. refl }

-- the tallies after a topic joined the others
abbrev pub with_tally : List (List ℕ) → List ℕ → List Tally → List Tally
with_tally topics topic tallies = if list_any (bytes_eq topic) topics then tallies else tallies ++ no_tally ∷ []

placed_step : (lines : List QrelLine) (topics : List (List ℕ)) (topic : List ℕ) (t : Bool) → list_any (bytes_eq topic) topics ≡ t
    → (list_any (bytes_eq topic) topics ≡ false → tally_on lines topic ≡ no_tally)
    → (if t then map (tally_on lines) topics else map (tally_on lines) topics ++ no_tally ∷ [])
    ≡ map (tally_on lines) (if t then topics else topics ++ topic ∷ [])
placed_step lines topics topic true is absent = refl
placed_step lines topics topic false is absent =
    ap (λ t. map (tally_on lines) topics ++ t ∷ []) (sym (absent is)) ∙ sym (map-append (tally_on lines) topics (topic ∷ []))

placed : (lines : List QrelLine) (topics : List (List ℕ)) (tallies : List Tally) (topic : List ℕ) → AreTallied lines topics tallies
    → with_tally topics topic tallies ≡ map (tally_on lines) (with_name topics topic)
placed lines topics tallies topic w =
    ap (with_tally topics topic) w.tallies_are ∙ placed_step lines topics topic (list_any (bytes_eq topic) topics) refl (w.absent topic)

absent_step : (topics : List (List ℕ)) (topic other : List ℕ) (t : Bool) → list_any (bytes_eq topic) topics ≡ t
    → list_any (bytes_eq other) (if t then topics else topics ++ topic ∷ []) ≡ false
    → (list_any (bytes_eq other) topics ≡ false) × (other ≢ topic)
absent_step topics topic other true is gone =
    (gone, λ same. let yes : list_any (bytes_eq other) topics ≡ true = subst (λ t. list_any (bytes_eq t) topics ≡ true) (sym same) is in cc (yes, gone))
absent_step topics topic other false is gone =
    let both = or_parts (list_any (bytes_eq other) topics) _ (sym (list_any-append (bytes_eq other) topics (topic ∷ [])) ∙ gone) in (
      both.0,
      λ same. let yes : bytes_eq other topic ≡ true = (bytes_eq-Decides _ _).1 same in
          let no : (bytes_eq other topic || false) ≡ false = both.1 in cc (rw yes at no),
    )

module _ (qrels : List QrelLine) (i : ℕ) (line : QrelLine) (topics new : List (List ℕ)) (tallies : List Tally)
    (place : ℕ) (within : i < length qrels) (item : line ≡ get_or qrels i line)
    (w : AreTallied (take i qrels) topics tallies) (new_is : new ≡ with_name topics line.topic) (found : number_of new line.topic ≡ Some place) where
  there : (position_or_len (bytes_eq line.topic) new < length new) × (position_or_len (bytes_eq line.topic) new ≡ place)
  there = let p = cond_some _ _ _ found in (ltb-true _ _ p.0, p.1)

  one_more : take (i + 1) qrels ≡ take i qrels ++ line ∷ []
  one_more = take_more qrels i line within ∙ ap (λ l. take i qrels ++ l ∷ []) (sym item)

  others_stay : (other : List ℕ) → other ≢ line.topic → tally_on (take i qrels) other ≡ tally_on (take i qrels ++ line ∷ []) other
  others_stay other apart = sym (passed_over (take i qrels) line other (other_topic line other apart))

  all_placed : with_tally topics line.topic tallies ≡ map (tally_on (take i qrels)) new
  all_placed = placed (take i qrels) topics tallies line.topic w ∙ ap (map (tally_on (take i qrels))) (sym new_is)

  -- each topic has a tally
  pub tally_within : (now : List Tally) → now ≡ with_tally topics line.topic tallies → place < length now
  tally_within now now_is = omega (arith, ap length (now_is ∙ all_placed), length-map new (tally_on (take i qrels)), there.0, there.1)

  -- the tally of the line's topic
  pub tally_here : (now : List Tally) (d : Tally) → now ≡ with_tally topics line.topic tallies → get_or now place d ≡ tally_on (take i qrels) line.topic
  tally_here now d now_is =
      rw (now_is ∙ all_placed, ← there.1) (value_at (tally_on (take i qrels)) (tally_on (take i qrels ++ line ∷ [])) line.topic others_stay new d there.0)

  -- the tallies after the line
  pub tallied_next : (now after : List Tally) (d : Tally) → IsDistinct bytes_eq new → now ≡ with_tally topics line.topic tallies
      → after ≡ set now place (tally_more (get_or now place d) line.grade)
      → AreTallied (take (i + 1) qrels) new after
  tallied_next now after d distinct now_is after_is =
      let apart = AllPairs-from_IsDistinct bytes_eq-Decides new distinct in
      let more : tally_more (get_or now place d) line.grade ≡ tally_on (take i qrels ++ line ∷ []) line.topic =
      ap (λ t. tally_more t line.grade) (tally_here now d now_is) ∙ sym (counted (take i qrels) line line.topic (same_topic line)) in
      record {
        topics_are = new_is ∙ ap (λ t. with_name t line.topic) w.topics_are ∙ sym (topics_of-more qrels i line within item);
        tallies_are =
            after_is
            ∙ ap (set now place) more
            ∙ ap (λ ts. set ts place (tally_on (take i qrels ++ line ∷ []) line.topic)) (now_is ∙ all_placed)
            ∙ ap (λ k. set (map (tally_on (take i qrels)) new) k (tally_on (take i qrels ++ line ∷ []) line.topic)) (sym there.1)
            ∙ changed (tally_on (take i qrels)) (tally_on (take i qrels ++ line ∷ [])) line.topic others_stay new apart there.0
            ∙ ap (λ lines. map (tally_on lines) new) (sym one_more);
        absent = λ other gone.
            let both = absent_step topics line.topic other (list_any (bytes_eq line.topic) topics) refl (ap (list_any (bytes_eq other)) (sym new_is) ∙ gone) in
            ap (λ lines. tally_on lines other) one_more ∙ passed_over (take i qrels) line other (other_topic line other both.1) ∙ w.absent other both.0;
      }

-- ---- bounds

-- no count passes the number of lines
pub most_relevant : (qrels : List QrelLine) (topic : List ℕ) → (tally_on qrels topic).relevant ≤ length qrels
most_relevant qrels topic = count_by-le-length (is_high topic) qrels

pub most_others : (qrels : List QrelLine) (topic : List ℕ) → (tally_on qrels topic).others ≤ length qrels
most_others qrels topic = count_by-le-length (is_low topic) qrels

pub relevant-le : (qrels : List QrelLine) (i : ℕ) (topic : List ℕ) → (tally_on (take i qrels) topic).relevant ≤ i
relevant-le qrels i topic = omega (arith, most_relevant (take i qrels) topic, length-take i qrels)

pub others-le : (qrels : List QrelLine) (i : ℕ) (topic : List ℕ) → (tally_on (take i qrels) topic).others ≤ i
others-le qrels i topic = omega (arith, most_others (take i qrels) topic, length-take i qrels)

pub tally_more-high : (old : Tally) (grade : ℕ) → relevant_level ≤ grade → tally_more old grade ≡ record { relevant = old.relevant + 1; others = old.others }
tally_more-high old grade h =
    let t : leb relevant_level grade ≡ true = grind (arith, nat_tests) in
    ap (λ t. cond t (tally (old.relevant + 1) old.others) (tally old.relevant (old.others + 1))) t

pub tally_more-low : (old : Tally) (grade : ℕ) → grade < relevant_level → tally_more old grade ≡ record { relevant = old.relevant; others = old.others + 1 }
tally_more-low old grade h =
    let t : leb relevant_level grade ≡ false = grind (arith, nat_tests) in
    ap (λ t. cond t (tally (old.relevant + 1) old.others) (tally old.relevant (old.others + 1))) t
