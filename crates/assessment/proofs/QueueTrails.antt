-- The trail of a topic's queue after a grade comes, changes or goes.
use Rattle.std.proofs.Common.{◌≡◌, ◌<◌, ◌≤◌, ◌+◌, ◌-◌, ℕ, suc, Bool, true, false, not, cond, List, [], ◌∷◌, ◌++◌, Option, None, Some, length, map, refl, sym, ap, ◌∙◌, arith, ltb}
use Rattle.std.specs.Prelude.{◌==◌, All, nat_le}
use Rattle.std.specs.List.{position, position_or_len}
use Rattle.std.specs.Option.{option_map}
use Rattle.std.proofs.lemmas.Bool.{eq-eqb, ltb-false, ltb-true}
use Rattle.decimal_rank.specs.declared.naming.DocId.{DocId}
use Rattle.mtf_queue.specs.Rule.{trail_regraded}
use Rattle.mtf_queue.specs.declared.rule.Judged.{Judged}
use Rattle.qrels_view.specs.Grades.{first_grade, graded_docs, with_grade}
use Rattle.decimal_rank.specs.Rankings.Places.{place_in}
use Rattle.std.proofs.lemmas.List.{length-map, map-append}
use Rattle.std.proofs.lemmas.List.Elements.{All-cons}
use Rattle.decimal_rank.proofs.TruthValues.{eqb_swap}
use Rattle.qrels_view.specs.declared.grades.Graded.{Graded}
use Rattle.assessment.specs.TopicFacts.{judged_of}

module _ (level : ℕ) (doc : DocId) where
  abbrev pub is_doc : Graded → Bool
  is_doc one = doc.0 == one.doc.0

  abbrev judged : List Graded → List Judged
  judged graded = map (judged_of level) graded

  same-place : (graded : List Graded) → position_or_len (λ (d : DocId). d.0 == doc.0) (graded_docs graded) ≡ position_or_len is_doc graded
  same-place [] = refl
  same-place (x ∷ graded) =
      ap (λ t. cond (not t) (1 + position_or_len (λ (d : DocId). d.0 == doc.0) (graded_docs graded)) 0) (eqb_swap x.doc.0 doc.0)
      ∙ ap (λ n. cond (not (is_doc x)) (1 + n) 0) (same-place graded)

  place-of : (graded : List Graded) → place_in (graded_docs graded) doc ≡ option_map (λ index. index + 1) (position is_doc graded)
  place-of graded =
      ap (λ n. option_map (λ index. index + 1) (cond (ltb n (length (graded_docs graded))) (Some n) None)) (same-place graded)
      ∙ ap (λ m. option_map (λ index. index + 1) (cond (ltb (position_or_len is_doc graded) m) (Some (position_or_len is_doc graded)) None))
      (length-map graded (λ (one : Graded). one.doc))

  cases-of : (graded : List Graded) (o : Option ℕ) → place_in (graded_docs graded) doc ≡ o → (t : Bool)
      → ltb (position_or_len is_doc graded) (length graded) ≡ t
      → option_map (λ index. index + 1) (cond t (Some (position_or_len is_doc graded)) None) ≡ o
  cases-of graded o is t test =
      ap (λ t. option_map (λ index. index + 1) (cond t (Some (position_or_len is_doc graded)) None)) (sym test) ∙ sym (place-of graded) ∙ is

  -- a document with a place stands at it
  pub place-some : (graded : List Graded) (place : ℕ) → place_in (graded_docs graded) doc ≡ Some place
      → (position_or_len is_doc graded < length graded) × (place - 1 ≡ position_or_len is_doc graded)
  place-some graded place is = step (ltb (position_or_len is_doc graded) (length graded)) refl
    where
      here : (test : ltb (position_or_len is_doc graded) (length graded) ≡ true)
          → (let found : Option ℕ = Some (position_or_len is_doc graded + 1) in let wanted : Option ℕ = Some place in found ≡ wanted)
          → (position_or_len is_doc graded < length graded) × (place - 1 ≡ position_or_len is_doc graded)
      here test same = let e : position_or_len is_doc graded + 1 ≡ place = cc same in (ltb-true _ _ test, omega (arith, e))

      step : (t : Bool) → ltb (position_or_len is_doc graded) (length graded) ≡ t
          → (position_or_len is_doc graded < length graded) × (place - 1 ≡ position_or_len is_doc graded)
      step true test = here test (cases-of graded (Some place) is true test)
      step false test = let no_place : ◌≡◌ {A = Option ℕ} None (Some place) = cases-of graded (Some place) is false test in cc no_place

  pub place-none : (graded : List Graded) → place_in (graded_docs graded) doc ≡ None → length graded ≤ position_or_len is_doc graded
  place-none graded is = step (ltb (position_or_len is_doc graded) (length graded)) refl
    where
      step : (t : Bool) → ltb (position_or_len is_doc graded) (length graded) ≡ t → length graded ≤ position_or_len is_doc graded
      step true test = let a_place : ◌≡◌ {A = Option ℕ} (Some (position_or_len is_doc graded + 1)) None = cases-of graded None is true test in cc a_place
      step false test = ltb-false _ _ test

  -- a grade that changes at its place
  pub regraded-at : (grade : Option ℕ) (graded : List Graded) → position_or_len is_doc graded < length graded
      → judged (with_grade doc grade graded) ≡ trail_regraded (judged graded) (position_or_len is_doc graded) (option_map (nat_le level) grade)
  regraded-at grade [] within = absurd (omega (arith, within))
  regraded-at grade (x ∷ graded) within = step (is_doc x) refl within (regraded-at grade graded)
    where
      step : (t : Bool) → is_doc x ≡ t → cond (not (is_doc x)) (1 + position_or_len is_doc graded) 0 < suc (length graded)
          → (position_or_len is_doc graded < length graded
          → judged (with_grade doc grade graded) ≡ trail_regraded (judged graded) (position_or_len is_doc graded) (option_map (nat_le level) grade))
          → judged (cond (is_doc x) ((let g : Graded = record { doc = x.doc; grade = grade } in g) ∷ graded) (x ∷ with_grade doc grade graded))
          ≡ trail_regraded (judged (x ∷ graded)) (cond (not (is_doc x)) (1 + position_or_len is_doc graded) 0) (option_map (nat_le level) grade)
      step true test inner rest = rw test refl
      step false test inner rest =
          let bound : 1 + position_or_len is_doc graded < suc (length graded) = rw test at inner in
          let tail = rest (omega (arith, bound)) in
          let place : 1 + position_or_len is_doc graded ≡ suc (position_or_len is_doc graded) = omega arith in
          rw (test, place) (ap (λ js. judged_of level x ∷ js) tail)

  -- a first grade goes last
  pub grade-last : (grade : Option ℕ) (graded : List Graded) → length graded ≤ position_or_len is_doc graded
      → with_grade doc grade graded ≡ graded ++ first_grade doc grade
  grade-last grade [] past = refl
  grade-last grade (x ∷ graded) past = step (is_doc x) refl past (grade-last grade graded)
    where
      step : (t : Bool) → is_doc x ≡ t → suc (length graded) ≤ cond (not (is_doc x)) (1 + position_or_len is_doc graded) 0
          → (length graded ≤ position_or_len is_doc graded → with_grade doc grade graded ≡ graded ++ first_grade doc grade)
          → cond (is_doc x) ((let g : Graded = record { doc = x.doc; grade = grade } in g) ∷ graded) (x ∷ with_grade doc grade graded)
          ≡ x ∷ graded ++ first_grade doc grade
      step true test inner rest = let bound : suc (length graded) ≤ 0 = rw test at inner in absurd (omega (arith, bound))
      step false test inner rest = let bound : suc (length graded) ≤ 1 + position_or_len is_doc graded = rw test at inner in
          rw test (ap (λ gs. x ∷ gs) (rest (omega (arith, bound))))

  pub not-judged : (graded : List Graded) → length graded ≤ position_or_len is_doc graded → All (λ one. ¬ (one.doc ≡ doc)) (judged graded)
  not-judged [] past = λ k d within. absurd (omega (arith, within))
  not-judged (x ∷ graded) past = step (is_doc x) refl past (not-judged graded)
    where
      step : (t : Bool) → is_doc x ≡ t → suc (length graded) ≤ cond (not (is_doc x)) (1 + position_or_len is_doc graded) 0
          → (length graded ≤ position_or_len is_doc graded → All (λ one. ¬ (one.doc ≡ doc)) (judged graded))
          → All (λ one. ¬ (one.doc ≡ doc)) (judged (x ∷ graded))
      step true test inner rest = let bound : suc (length graded) ≤ 0 = rw test at inner in absurd (omega (arith, bound))
      step false test inner rest =
          let bound : suc (length graded) ≤ 1 + position_or_len is_doc graded = rw test at inner in
          All-cons (λ (one : Judged). ¬ (one.doc ≡ doc)) (judged_of level x) (judged graded)
          (λ same. let found : is_doc x ≡ true = eq-eqb doc.0 x.doc.0 (sym (ap (λ (d : DocId). d.0) same)) in cc (found, test))
          (rest (omega (arith, bound)))

  pub first-judged : (grade : Option ℕ) (relevant : Bool) → option_map (nat_le level) grade ≡ Some relevant
      → judged (first_grade doc grade) ≡ record { doc = doc; relevant = Some relevant } ∷ []
  first-judged None relevant is = cc is
  first-judged (Some g) relevant is = ap (λ (o : Option Bool). let one : Judged = record { doc = doc; relevant = o } in one ∷ []) is

  pub none-judged : (grade : Option ℕ) → option_map (nat_le level) grade ≡ None → judged (first_grade doc grade) ≡ []
  none-judged None is = refl
  none-judged (Some g) is = cc is

  -- a document that isn't on the trail
  pub judged-last : (grade : Option ℕ) (graded : List Graded) → place_in (graded_docs graded) doc ≡ None
      → judged (with_grade doc grade graded) ≡ judged graded ++ judged (first_grade doc grade)
  judged-last grade graded none = ap judged (grade-last grade graded (place-none graded none)) ∙ map-append (judged_of level) graded (first_grade doc grade)
