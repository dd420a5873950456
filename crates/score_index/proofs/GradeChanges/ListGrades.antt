-- What one document's new grade changes in the grades of a list, of whose documents no more count than of its topic's.
use Rattle.std.proofs.Common.{◌≡◌, ◌≢◌, ℕ, suc, ◌+◌, ◌-◌, ◌<◌, ◌≤◌, Bool, true, false, cond, eqb, nat_lt, List, [], ◌∷◌, Option, Some, None, count_by, get_or, length, map, set, refl, sym, ap, ◌∙◌, arith, get_or-set_other, get_or-set_same}
use Rattle.std.specs.List.{position_or_len}
use Rattle.std.specs.Option.{option_map}
use Rattle.std.proofs.lemmas.Bool.{eq-eqb, eqb-true, false≢true, ltb-true}
use Rattle.std.proofs.lemmas.Bool.Decides.{nat_tests}
use Rattle.std.proofs.lemmas.List.{get_or-map, length-map, length-set, same_lists}
use Rattle.std.proofs.lemmas.List.Sums.{fails_before_first, passes_at_first}
use Rattle.decimal_rank.specs.Rankings.Places.{AreDistinct, place_in}
use Rattle.decimal_rank.specs.declared.naming.DocId.{DocId}
use Rattle.qrels_view.specs.Grades.{as_number, effective_in, with_grade}
use Rattle.qrels_view.specs.declared.grades.Graded.{Graded}
use Rattle.qrels_view.proofs.NewGrades.{count-cons}
use Rattle.score_index.specs.KeptBoards.{put_at}

-- ---- the grade of each document

flip_false : (m n : ℕ) → eqb m n ≡ false → eqb n m ≡ false
flip_false m n e = grind (arith, nat_tests)

either_none : (t : Bool) → let nothing : Option ℕ = None in nothing ≡ cond t nothing nothing
either_none true = refl
either_none false = refl

pub effective-with_grade : (doc : DocId) (grade : Option ℕ) (graded : List Graded) (d : DocId)
    → effective_in (with_grade doc grade graded) d ≡ cond (eqb d.0 doc.0) grade (effective_in graded d)
effective-with_grade doc None [] d = either_none (eqb d.0 doc.0)
effective-with_grade doc (Some g) [] d = refl
effective-with_grade doc grade (one ∷ later) d = step (eqb doc.0 one.doc.0) refl (eqb d.0 one.doc.0) refl (effective-with_grade doc grade later d)
  where
    changed : Graded
    changed = record { doc = one.doc; grade = grade }

    step : (t : Bool) → eqb doc.0 one.doc.0 ≡ t → (s : Bool) → eqb d.0 one.doc.0 ≡ s
        → effective_in (with_grade doc grade later) d ≡ cond (eqb d.0 doc.0) grade (effective_in later d)
        → effective_in (cond t (changed ∷ later) (one ∷ with_grade doc grade later)) d
        ≡ cond (eqb d.0 doc.0) grade (cond (eqb d.0 one.doc.0) one.grade (effective_in later d))
    step true at s is rest =
        let same : eqb d.0 doc.0 ≡ s = ap (eqb d.0) (eqb-true doc.0 one.doc.0 at) ∙ is in
        ap (λ t. cond t grade (effective_in later d)) is ∙ both s
        ∙ ap (λ t. cond s grade (cond t one.grade (effective_in later d))) (sym is)
        ∙ ap (λ t. cond t grade (cond (eqb d.0 one.doc.0) one.grade (effective_in later d))) (sym same)
      where
        both : (t : Bool) → cond t grade (effective_in later d) ≡ cond t grade (cond t one.grade (effective_in later d))
        both true = refl
        both false = refl
    step false at true is rest =
        let apart : eqb d.0 doc.0 ≡ false = ap (λ n. eqb n doc.0) (eqb-true d.0 one.doc.0 is) ∙ flip_false doc.0 one.doc.0 at in
        ap (λ t. cond t one.grade (effective_in (with_grade doc grade later) d)) is
        ∙ ap (λ t. cond false grade (cond t one.grade (effective_in later d))) (sym is)
        ∙ ap (λ t. cond t grade (cond (eqb d.0 one.doc.0) one.grade (effective_in later d))) (sym apart)
    step false at false is rest =
        ap (λ t. cond t one.grade (effective_in (with_grade doc grade later) d)) is ∙ rest
        ∙ ap (λ t. cond (eqb d.0 doc.0) grade (cond t one.grade (effective_in later d))) (sym is)

-- ---- the grades by rank

numbered : ℕ → DocId
numbered n = record { 0 = n }

same_doc : (a b : DocId) → a.0 ≡ b.0 → a ≡ b
same_doc a b e = let make : ℕ → DocId = λ n. record { 0 = n } in ap make e

-- two places of one document are one place
one_place : (docs : List DocId) (i j : ℕ) (d : DocId) → AreDistinct docs → i < length docs
    → j < length docs → (get_or docs i d).0 ≡ (get_or docs j d).0 → i ≢ j → ⊥
one_place docs i j d distinct in_i in_j same apart = step (nat_lt i j) refl
  where
    docs_same : get_or docs i d ≡ get_or docs j d
    docs_same = same_doc (get_or docs i d) (get_or docs j d) same

    step : (t : Bool) → nat_lt i j ≡ t → ⊥
    step true e = distinct i j d (ltb-true i j e) in_j docs_same
    step false e = distinct j i d (grind (arith, nat_tests)) in_i (sym docs_same)

module _ {X : Type 0} (docs : List DocId) (doc : DocId) (grade : X) (f g : DocId → X) (distinct : AreDistinct docs)
    (changes : (d : DocId) → g d ≡ cond (eqb d.0 doc.0) grade (f d)) where
  abbrev is_doc : DocId → Bool
  is_doc d = eqb d.0 doc.0

  abbrev first : ℕ
  first = position_or_len is_doc docs

  found : nat_lt first (length docs) ≡ true → set (map f docs) first grade ≡ map g docs
  found e = same_lists (set (map f docs) first grade) (map g docs)
      (length-set (map f docs) first grade ∙ length-map docs f ∙ sym (length-map docs g))
      (λ k d within. at k d (omega (arith, within, length-set (map f docs) first grade, length-map docs f)) (eqb k first) refl)
    where
      inside : first < length docs
      inside = ltb-true first (length docs) e

      at : (k : ℕ) (d : X) → k < length docs → (t : Bool) → eqb k first ≡ t → get_or (set (map f docs) first grade) k d ≡ get_or (map g docs) k d
      at k d within true is =
          let place : k ≡ first = eqb-true k first is in
          let written : first < length (map f docs) = omega (arith, inside, length-map docs f) in
          ap (λ i. get_or (set (map f docs) first grade) i d) place ∙ get_or-set_same (map f docs) first grade d written
          ∙ ap (λ t. cond t grade (f (get_or docs first doc))) (sym (passes_at_first is_doc docs doc inside))
          ∙ sym (changes (get_or docs first doc)) ∙ sym (get_or-map g docs first doc d inside) ∙ ap (λ i. get_or (map g docs) i d) (sym place)
      at k d within false is =
          let other : k ≢ first = λ same. false≢true (sym is ∙ eq-eqb k first same) in
          get_or-set_other (map f docs) first k grade d other ∙ get_or-map f docs k doc d within
          ∙ ap (λ t. cond t grade (f (get_or docs k doc))) (sym (fails (is_doc (get_or docs k doc)) refl other))
          ∙ sym (changes (get_or docs k doc)) ∙ sym (get_or-map g docs k doc d within)
        where
          fails : (t : Bool) → is_doc (get_or docs k doc) ≡ t → k ≢ first → is_doc (get_or docs k doc) ≡ false
          fails true here other =
              let here_is : (get_or docs k doc).0 ≡ doc.0 = eqb-true (get_or docs k doc).0 doc.0 here in
              let first_is : (get_or docs first doc).0 ≡ doc.0 = eqb-true (get_or docs first doc).0 doc.0 (passes_at_first is_doc docs doc inside) in
              absurd (one_place docs k first doc distinct within inside (here_is ∙ sym first_is) other)
          fails false here other = here

  absent : nat_lt first (length docs) ≡ false → map f docs ≡ map g docs
  absent e = same_lists (map f docs) (map g docs) (length-map docs f ∙ sym (length-map docs g))
      (λ k d within. at k d (omega (arith, within, length-map docs f)))
    where
      past : length docs ≤ first
      past = grind (arith, nat_tests)

      at : (k : ℕ) (d : X) → k < length docs → get_or (map f docs) k d ≡ get_or (map g docs) k d
      at k d within =
          let before : k < first = omega (arith, within, past) in
          get_or-map f docs k doc d within
          ∙ ap (λ t. cond t grade (f (get_or docs k doc))) (sym (fails_before_first is_doc docs k doc before))
          ∙ sym (changes (get_or docs k doc)) ∙ sym (get_or-map g docs k doc d within)

  -- a document's new grade stands at its place alone
  pub put-map : put_at (place_in docs doc) grade (map f docs) ≡ map g docs
  put-map = step (nat_lt first (length docs)) refl
    where
      step : (t : Bool) → nat_lt first (length docs) ≡ t → put_at (option_map (λ i. i + 1) (cond t (Some first) None)) grade (map f docs) ≡ map g docs
      step true e = let back : first + 1 - 1 ≡ first = omega arith in ap (λ i. set (map f docs) i grade) back ∙ found e
      step false e = absent e

-- ---- a list has no more that count than its topic

module _ (p : Option ℕ → Bool) (none : p None ≡ false) where
  abbrev counted : Graded → Bool
  counted one = p one.grade

  no_grades : (docs : List DocId) → count_by p (map (effective_in []) docs) ≡ 0
  no_grades [] = refl
  no_grades (doc ∷ docs) =
      let zero_then : as_number (p None) ≡ 0 = ap as_number none in
      omega (arith, count-cons p None (map (effective_in []) docs), zero_then, no_grades docs)

  without_first : (one : Graded) (later : List Graded) (docs : List DocId) → ((k : ℕ) (d : DocId) → k < length docs → eqb (get_or docs k d).0 one.doc.0 ≡ false)
      → map (effective_in (one ∷ later)) docs ≡ map (effective_in later) docs
  without_first one later [] apart = refl
  without_first one later (doc ∷ docs) apart =
      ap (λ t. cond t one.grade (effective_in later doc) ∷ map (effective_in (one ∷ later)) docs) (apart 0 doc (omega arith))
      ∙ ap (λ grades. effective_in later doc ∷ grades) (without_first one later docs (λ k d within. apart (suc k) d (omega (arith, within))))

  at_most_one_more : (one : Graded) (later : List Graded) (docs : List DocId) → AreDistinct docs
      → count_by p (map (effective_in (one ∷ later)) docs) ≤ count_by p (map (effective_in later) docs) + as_number (p one.grade)
  at_most_one_more one later [] distinct = omega arith
  at_most_one_more one later (doc ∷ docs) distinct =
      step (eqb doc.0 one.doc.0) refl
      (at_most_one_more one later docs (λ i j d less within. distinct (suc i) (suc j) d (omega (arith, less)) (omega (arith, within))))
    where
      step : (t : Bool) → eqb doc.0 one.doc.0 ≡ t → count_by p (map (effective_in (one ∷ later)) docs)
          ≤ count_by p (map (effective_in later) docs) + as_number (p one.grade)
          → count_by p (cond (eqb doc.0 one.doc.0) one.grade (effective_in later doc) ∷ map (effective_in (one ∷ later)) docs)
          ≤ count_by p (effective_in later doc ∷ map (effective_in later) docs) + as_number (p one.grade)
      step true at rest =
          let apart : (k : ℕ) (d : DocId) → k < length docs → eqb (get_or docs k d).0 one.doc.0 ≡ false =
          λ k d within. differs (eqb (get_or docs k d).0 one.doc.0) k d within refl in
          let same : count_by p (map (effective_in (one ∷ later)) docs) ≡ count_by p (map (effective_in later) docs) =
          ap (count_by p) (without_first one later docs apart) in
          let here : as_number (p (cond (eqb doc.0 one.doc.0) one.grade (effective_in later doc))) ≡ as_number (p one.grade) =
          ap (λ t. as_number (p (cond t one.grade (effective_in later doc)))) at in
          omega (
            arith,
            same,
            here,
            count-cons p (cond (eqb doc.0 one.doc.0) one.grade (effective_in later doc)) (map (effective_in (one ∷ later)) docs),
            count-cons p (effective_in later doc) (map (effective_in later) docs),
          )
        where
          differs : (t : Bool) (k : ℕ) (d : DocId) → k < length docs → eqb (get_or docs k d).0 one.doc.0 ≡ t → eqb (get_or docs k d).0 one.doc.0 ≡ false
          differs true k d within is =
              let same : doc.0 ≡ (get_or docs k d).0 = eqb-true doc.0 one.doc.0 at ∙ sym (eqb-true (get_or docs k d).0 one.doc.0 is) in
              absurd (distinct 0 (suc k) d (omega arith) (omega (arith, within)) (same_doc doc (get_or docs k d) same))
          differs false k d within is = is
      step false at rest =
          let here : as_number (p (cond (eqb doc.0 one.doc.0) one.grade (effective_in later doc))) ≡ as_number (p (effective_in later doc)) =
          ap (λ t. as_number (p (cond t one.grade (effective_in later doc)))) at in
          omega (
            arith,
            here,
            rest,
            count-cons p (cond (eqb doc.0 one.doc.0) one.grade (effective_in later doc)) (map (effective_in (one ∷ later)) docs),
            count-cons p (effective_in later doc) (map (effective_in later) docs),
          )

  pub listed_within : (graded : List Graded) (docs : List DocId) → AreDistinct docs → count_by p (map (effective_in graded) docs) ≤ count_by counted graded
  listed_within [] docs distinct = omega (arith, no_grades docs)
  listed_within (one ∷ later) docs distinct =
      omega (arith, at_most_one_more one later docs distinct, listed_within later docs distinct, count-cons counted one later)
