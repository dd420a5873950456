-- What one document's new grade changes.
use Rattle.std.proofs.Common.{◌≡◌, ℕ, ◌+◌, ◌-◌, ◌≤◌, Bool, true, false, cond, ◌||◌, eqb, List, [], ◌∷◌, ◌++◌, Option, Some, None, is_some, count_by, length, refl, sym, ap, ◌∙◌, arith}
use Rattle.std.specs.Map.{lookup}
use Rattle.std.proofs.lemmas.Bool.{false≢true}
use Rattle.std.proofs.lemmas.List.Sums.{sum_by-cons}
use Rattle.indexmap.specs.IndexMap.{insert_entry}
use Rattle.decimal_rank.specs.declared.naming.DocId.{DocId}
use Rattle.qrels_view.specs.declared.grades.Graded.{Graded}
use Rattle.qrels_view.specs.Grades.{as_number, effective_in, graded_docs, graded_of, with_grade}

abbrev pub GradeEntry : Type 0
GradeEntry = ℕ × Option ℕ

-- ---- counts

as_cond : (t : Bool) → cond t 1 0 ≡ as_number t
as_cond true = refl
as_cond false = refl

pub count-cons : {X : Type 0} (q : X → Bool) (x : X) (xs : List X) → count_by q (x ∷ xs) ≡ as_number (q x) + count_by q xs
count-cons q x xs = sum_by-cons (λ y. cond (q y) 1 0) x xs ∙ ap (λ n. n + count_by q xs) (as_cond (q x))

pub at_most_one : (b : Bool) → as_number b ≤ 1
at_most_one true = omega arith
at_most_one false = omega arith

module _ (p : Option ℕ → Bool) (none : p None ≡ false) where
  abbrev counted : Graded → Bool
  counted one = p one.grade

  -- a new grade takes the old one out of the count and comes in itself
  pub recounted : (doc : DocId) (new : Option ℕ) (graded : List Graded)
      → count_by counted (with_grade doc new graded) + as_number (p (effective_in graded doc)) ≡ count_by counted graded + as_number (p new)
  recounted doc None [] = refl
  recounted doc (Some grade) [] =
      let one : Graded = record { doc = doc; grade = Some grade } in
      let first = count-cons counted one [] in
      let zero_then = ap as_number none in
      let nothing : count_by counted [] ≡ 0 = refl in
      omega (arith, first, zero_then, nothing)
  recounted doc new (one ∷ later) = step (eqb doc.0 one.doc.0) (recounted doc new later)
    where
      changed : Graded
      changed = record { doc = one.doc; grade = new }

      step : (t : Bool) → count_by counted (with_grade doc new later) + as_number (p (effective_in later doc)) ≡ count_by counted later + as_number (p new)
          → count_by counted (cond t (changed ∷ later) (one ∷ with_grade doc new later)) + as_number (p (cond t one.grade (effective_in later doc)))
          ≡ count_by counted (one ∷ later) + as_number (p new)
      step true rest = omega (arith, count-cons counted changed later, count-cons counted one later)
      step false rest = omega (arith, count-cons counted one (with_grade doc new later), count-cons counted one later)

  -- the count after a new grade, from the one before
  pub count-with_grade : (doc : DocId) (old new : Option ℕ) (graded : List Graded) → effective_in graded doc ≡ old
      → count_by counted graded + as_number (p new) - as_number (p old) ≡ count_by counted (with_grade doc new graded)
  count-with_grade doc old new graded is =
      let before : as_number (p (effective_in graded doc)) ≡ as_number (p old) = ap (λ grade. as_number (p grade)) is in
      omega (arith, recounted doc new graded, before)

  -- a document that counts is among what is counted
  pub counts_least : (doc : DocId) (old : Option ℕ) (graded : List Graded) → effective_in graded doc ≡ old → as_number (p old) ≤ count_by counted graded
  counts_least doc old [] is = let zero_then : as_number (p old) ≡ 0 = ap (λ grade. as_number (p grade)) (sym is) ∙ ap as_number none in
      omega (arith, zero_then)
  counts_least doc old (one ∷ later) is = step (eqb doc.0 one.doc.0) refl (counts_least doc old later)
    where
      step : (t : Bool) → eqb doc.0 one.doc.0 ≡ t → (effective_in later doc ≡ old → as_number (p old) ≤ count_by counted later)
          → as_number (p old) ≤ count_by counted (one ∷ later)
      step true at rest =
          let here : one.grade ≡ old = ap (λ t. cond t one.grade (effective_in later doc)) (sym at) ∙ is in
          let same : as_number (p one.grade) ≡ as_number (p old) = ap (λ grade. as_number (p grade)) here in
          omega (arith, count-cons counted one later, same)
      step false at rest =
          let least = rest (ap (λ t. cond t one.grade (effective_in later doc)) (sym at) ∙ is) in
          omega (arith, count-cons counted one later, least)

-- ---- what a new grade leaves

pub nothing_changes : (doc : DocId) (graded : List Graded) → effective_in graded doc ≡ None → with_grade doc None graded ≡ graded
nothing_changes doc [] e = refl
nothing_changes doc (one ∷ later) e = step (eqb doc.0 one.doc.0) (nothing_changes doc later) e
  where
    changed : Option ℕ → Graded
    changed grade = record { doc = one.doc; grade = grade }

    step : (t : Bool) → (effective_in later doc ≡ None → with_grade doc None later ≡ later) → cond t one.grade (effective_in later doc) ≡ None
        → cond t (changed None ∷ later) (one ∷ with_grade doc None later) ≡ one ∷ later
    step true rest none = ap (λ grade. changed grade ∷ later) (sym none)
    step false rest none = ap (λ more. one ∷ more) (rest none)

pub one_more_at_most : (doc : DocId) (grade : Option ℕ) (graded : List Graded) → length (with_grade doc grade graded) ≤ length graded + 1
one_more_at_most doc None [] = omega arith
one_more_at_most doc (Some grade) [] = omega arith
one_more_at_most doc grade (one ∷ later) = step (eqb doc.0 one.doc.0) (one_more_at_most doc grade later)
  where
    changed : Graded
    changed = record { doc = one.doc; grade = grade }

    step : (t : Bool) → length (with_grade doc grade later) ≤ length later + 1
        → length (cond t (changed ∷ later) (one ∷ with_grade doc grade later)) ≤ length (one ∷ later) + 1
    step true rest = omega arith
    step false rest = omega arith

-- ---- what is kept by the number of the document

pub put_in : (doc : DocId) (grade : Option ℕ) (entries : List GradeEntry) → (is_some grade || is_some (effective_in (graded_of entries) doc)) ≡ true
    → graded_of (insert_entry eqb entries doc.0 grade) ≡ with_grade doc grade (graded_of entries)
put_in doc None [] h = absurd (false≢true h)
put_in doc (Some grade) [] h = refl
put_in doc grade (entry ∷ entries) h = step (eqb doc.0 entry.0) (put_in doc grade entries) h
  where
    here : Graded
    here = record { doc = record { 0 = entry.0 }; grade = entry.1 }

    changed : Graded
    changed = record { doc = record { 0 = entry.0 }; grade = grade }

    step : (t : Bool)
        → ((is_some grade || is_some (effective_in (graded_of entries) doc)) ≡ true
        → graded_of (insert_entry eqb entries doc.0 grade) ≡ with_grade doc grade (graded_of entries))
        → (is_some grade || is_some (cond t entry.1 (effective_in (graded_of entries) doc))) ≡ true
        → graded_of (cond t ((entry.0, grade) ∷ entries) (entry ∷ insert_entry eqb entries doc.0 grade))
        ≡ cond t (changed ∷ graded_of entries) (here ∷ with_grade doc grade (graded_of entries))
    step true rest any = refl
    step false rest any = ap (λ later. here ∷ later) (rest any)

-- a document that was there keeps its place, and another goes last
pub docs_then : (doc : DocId) (grade : Option ℕ) (entries : List GradeEntry)
    → graded_docs (graded_of (insert_entry eqb entries doc.0 grade))
    ≡ cond (is_some (lookup (eqb doc.0) entries)) (graded_docs (graded_of entries)) (graded_docs (graded_of entries) ++ doc ∷ [])
docs_then doc grade [] = refl
docs_then doc grade (entry ∷ entries) = step (eqb doc.0 entry.0) (docs_then doc grade entries)
  where
    here : DocId
    here = record { 0 = entry.0 }

    last : (s : Bool) → cond s (here ∷ graded_docs (graded_of entries)) (here ∷ graded_docs (graded_of entries) ++ doc ∷ [])
        ≡ here ∷ cond s (graded_docs (graded_of entries)) (graded_docs (graded_of entries) ++ doc ∷ [])
    last true = refl
    last false = refl

    step : (t : Bool)
        → graded_docs (graded_of (insert_entry eqb entries doc.0 grade))
        ≡ cond (is_some (lookup (eqb doc.0) entries)) (graded_docs (graded_of entries)) (graded_docs (graded_of entries) ++ doc ∷ [])
        → graded_docs (graded_of (cond t ((entry.0, grade) ∷ entries) (entry ∷ insert_entry eqb entries doc.0 grade)))
        ≡ cond (is_some (cond t (Some entry.1) (lookup (eqb doc.0) entries))) (here ∷ graded_docs (graded_of entries))
        (here ∷ graded_docs (graded_of entries) ++ doc ∷ [])
    step true rest = refl
    step false rest = ap (λ later. here ∷ later) rest ∙ sym (last (is_some (lookup (eqb doc.0) entries)))

abbrev pub grade_found : Option (Option ℕ) → Option ℕ
grade_found None = None
grade_found (Some grade) = grade

pub looked_up : (doc : DocId) (entries : List GradeEntry) → grade_found (lookup (eqb doc.0) entries) ≡ effective_in (graded_of entries) doc
looked_up doc [] = refl
looked_up doc (entry ∷ entries) = step (eqb doc.0 entry.0) (looked_up doc entries)
  where
    step : (t : Bool) → grade_found (lookup (eqb doc.0) entries) ≡ effective_in (graded_of entries) doc
        → grade_found (cond t (Some entry.1) (lookup (eqb doc.0) entries)) ≡ cond t entry.1 (effective_in (graded_of entries) doc)
    step true rest = refl
    step false rest = rest
