-- What a label and a ruling change among the documents.
use Rattle.std.proofs.Common.{◌≡◌, ℕ, Bool, true, false, cond, ◌&&◌, ◌||◌, nat_lt, eqb, eqb-true, List, [], ◌∷◌, ◌++◌, length, Some, None, refl, sym, ap, ◌∙◌, arith}
use Rattle.std.specs.Str.{bytes_eq}
use Rattle.std.proofs.lemmas.Bool.Decides.{nat_tests}
use Rattle.decimal_rank.specs.declared.naming.DocId.{DocId}
use Rattle.decimal_rank.proofs.TruthValues.{or_twice, or_in_turn, cond_same}
use Rattle.labels.specs.declared.given.Given.{Given}
use Rattle.labels.specs.DocumentLabels.{with_label}
use Rattle.labels.specs.LabelledDocuments.{LabelledDocument, given_at, is_labelled_document, labelled_docs, ruling_at, with_label_at, with_ruling_at}

-- ---- tests

module _ {X : Type 0} where
  none_of_both : (t : Bool) (x y : X) → cond (t && false) x y ≡ y
  none_of_both true x y = refl
  none_of_both false x y = refl

  asked_twice : (t : Bool) (x y z : X) → cond t x y ≡ cond t x (cond t z y)
  asked_twice true x y z = refl
  asked_twice false x y z = refl

  with_true : (t : Bool) (x y z : X) → cond t x y ≡ cond (t && true) x (cond t z y)
  with_true true x y z = refl
  with_true false x y z = refl

  in_turn : (t u : Bool) (x y z : X) → (t ≡ true → u ≡ false) → cond t x (cond u y z) ≡ cond u y (cond t x z)
  in_turn true u x y z apart = sym (ap (λ b. cond b y x) (apart refl))
  in_turn false u x y z apart = refl

-- a number that is compared with one of two equal numbers
same_test : (a b n : ℕ) → eqb a n ≡ true → eqb b n ≡ eqb b a
same_test a b n e = ap (eqb b) (sym (eqb-true a n e))

-- a number isn't equal to two that differ
one_of_two : (a b n : ℕ) → eqb a n ≡ false → eqb b n ≡ true → eqb b a ≡ false
one_of_two a b n e f = ap (λ m. eqb m a) (eqb-true b n f) ∙ grind (arith, nat_tests)

-- ---- labels

module _ (doc other : DocId) (assessor : List ℕ) (grade : ℕ) where
  pub given_after : (marked : List LabelledDocument)
      → given_at (with_label_at doc assessor grade marked) other
      ≡ cond (eqb other.0 doc.0) (with_label assessor grade (given_at marked doc)) (given_at marked other)
  given_after [] = refl
  given_after (one ∷ later) = step (eqb doc.0 one.doc.0) refl (given_after later)
    where
      changed : LabelledDocument
      changed = record one { given = with_label assessor grade one.given }

      step : (t : Bool) → eqb doc.0 one.doc.0 ≡ t
          → given_at (with_label_at doc assessor grade later) other
          ≡ cond (eqb other.0 doc.0) (with_label assessor grade (given_at later doc)) (given_at later other)
          → given_at (cond t (changed ∷ later) (one ∷ with_label_at doc assessor grade later)) other
          ≡ cond (eqb other.0 doc.0) (with_label assessor grade (cond t one.given (given_at later doc))) (given_at (one ∷ later) other)
      step true e rest =
          let same = same_test doc.0 other.0 one.doc.0 e in
          let given = with_label assessor grade one.given in
          ap (λ u. cond u given (given_at later other)) same
          ∙ asked_twice (eqb other.0 doc.0) given (given_at later other) one.given
          ∙ sym (ap (λ u. cond (eqb other.0 doc.0) given (cond u one.given (given_at later other))) same)
      step false e rest =
          ap (λ more. cond (eqb other.0 one.doc.0) one.given more) rest
          ∙ in_turn (eqb other.0 one.doc.0) (eqb other.0 doc.0) one.given (with_label assessor grade (given_at later doc))
          (given_at later other) (one_of_two doc.0 other.0 one.doc.0 e)

  pub ruling_after : (marked : List LabelledDocument) → ruling_at (with_label_at doc assessor grade marked) other ≡ ruling_at marked other
  ruling_after [] = cond_same (eqb other.0 doc.0) None
  ruling_after (one ∷ later) = step (eqb doc.0 one.doc.0) (ruling_after later)
    where
      changed : LabelledDocument
      changed = record one { given = with_label assessor grade one.given }

      step : (t : Bool) → ruling_at (with_label_at doc assessor grade later) other ≡ ruling_at later other
          → ruling_at (cond t (changed ∷ later) (one ∷ with_label_at doc assessor grade later)) other ≡ ruling_at (one ∷ later) other
      step true rest = refl
      step false rest = ap (λ more. cond (eqb other.0 one.doc.0) one.ruling more) rest

  pub marked_after : (marked : List LabelledDocument)
      → is_labelled_document (with_label_at doc assessor grade marked) other ≡ (eqb other.0 doc.0 || is_labelled_document marked other)
  marked_after [] = refl
  marked_after (one ∷ later) = step (eqb doc.0 one.doc.0) refl (marked_after later)
    where
      changed : LabelledDocument
      changed = record one { given = with_label assessor grade one.given }

      step : (t : Bool) → eqb doc.0 one.doc.0 ≡ t
          → is_labelled_document (with_label_at doc assessor grade later) other ≡ (eqb other.0 doc.0 || is_labelled_document later other)
          → is_labelled_document (cond t (changed ∷ later) (one ∷ with_label_at doc assessor grade later)) other
          ≡ (eqb other.0 doc.0 || is_labelled_document (one ∷ later) other)
      step true e rest =
          let same = same_test doc.0 other.0 one.doc.0 e in
          ap (λ u. u || is_labelled_document later other) same ∙ or_twice (eqb other.0 doc.0) (is_labelled_document later other)
          ∙ sym (ap (λ u. eqb other.0 doc.0 || (u || is_labelled_document later other)) same)
      step false e rest =
          ap (λ more. eqb other.0 one.doc.0 || more) rest ∙ or_in_turn (eqb other.0 one.doc.0) (eqb other.0 doc.0) (is_labelled_document later other)

pub docs_after : (doc : DocId) (assessor : List ℕ) (grade : ℕ) (marked : List LabelledDocument)
    → labelled_docs (with_label_at doc assessor grade marked) ≡ cond (is_labelled_document marked doc) (labelled_docs marked) (labelled_docs marked ++ doc ∷ [])
docs_after doc assessor grade [] = refl
docs_after doc assessor grade (one ∷ later) = step (eqb doc.0 one.doc.0) (docs_after doc assessor grade later)
  where
    changed : LabelledDocument
    changed = record one { given = with_label assessor grade one.given }

    last : (s : Bool) → one.doc ∷ cond s (labelled_docs later) (labelled_docs later ++ doc ∷ [])
        ≡ cond s (one.doc ∷ labelled_docs later) (one.doc ∷ labelled_docs later ++ doc ∷ [])
    last true = refl
    last false = refl

    step : (t : Bool) → labelled_docs (with_label_at doc assessor grade later)
        ≡ cond (is_labelled_document later doc) (labelled_docs later) (labelled_docs later ++ doc ∷ [])
        → labelled_docs (cond t (changed ∷ later) (one ∷ with_label_at doc assessor grade later))
        ≡ cond (t || is_labelled_document later doc) (labelled_docs (one ∷ later)) (labelled_docs (one ∷ later) ++ doc ∷ [])
    step true rest = refl
    step false rest = ap (λ docs. one.doc ∷ docs) rest ∙ last (is_labelled_document later doc)

-- ---- rulings

module _ (doc other : DocId) (grade : ℕ) where
  pub ruling_then : (marked : List LabelledDocument)
      → ruling_at (with_ruling_at doc grade marked) other ≡ cond (eqb other.0 doc.0 && is_labelled_document marked doc) (Some grade) (ruling_at marked other)
  ruling_then [] = sym (none_of_both (eqb other.0 doc.0) (Some grade) None)
  ruling_then (one ∷ later) = step (eqb doc.0 one.doc.0) refl (ruling_then later)
    where
      changed : LabelledDocument
      changed = record one { ruling = Some grade }

      step : (t : Bool) → eqb doc.0 one.doc.0 ≡ t
          → ruling_at (with_ruling_at doc grade later) other ≡ cond (eqb other.0 doc.0 && is_labelled_document later doc) (Some grade) (ruling_at later other)
          → ruling_at (cond t (changed ∷ later) (one ∷ with_ruling_at doc grade later)) other
          ≡ cond (eqb other.0 doc.0 && (t || is_labelled_document later doc)) (Some grade) (ruling_at (one ∷ later) other)
      step true e rest =
          let same = same_test doc.0 other.0 one.doc.0 e in
          ap (λ u. cond u (Some grade) (ruling_at later other)) same
          ∙ with_true (eqb other.0 doc.0) (Some grade) (ruling_at later other) one.ruling
          ∙ sym (ap (λ u. cond (eqb other.0 doc.0 && true) (Some grade) (cond u one.ruling (ruling_at later other))) same)
      step false e rest =
          ap (λ more. cond (eqb other.0 one.doc.0) one.ruling more) rest
          ∙ in_turn (eqb other.0 one.doc.0) (eqb other.0 doc.0 && is_labelled_document later doc) one.ruling (Some grade) (ruling_at later other)
          (λ h. ap (λ b. b && is_labelled_document later doc) (one_of_two doc.0 other.0 one.doc.0 e h))

  pub given_then : (marked : List LabelledDocument) → given_at (with_ruling_at doc grade marked) other ≡ given_at marked other
  given_then [] = refl
  given_then (one ∷ later) = step (eqb doc.0 one.doc.0) (given_then later)
    where
      changed : LabelledDocument
      changed = record one { ruling = Some grade }

      step : (t : Bool) → given_at (with_ruling_at doc grade later) other ≡ given_at later other
          → given_at (cond t (changed ∷ later) (one ∷ with_ruling_at doc grade later)) other ≡ given_at (one ∷ later) other
      step true rest = refl
      step false rest = ap (λ more. cond (eqb other.0 one.doc.0) one.given more) rest

  pub marked_then : (marked : List LabelledDocument) → is_labelled_document (with_ruling_at doc grade marked) other ≡ is_labelled_document marked other
  marked_then [] = refl
  marked_then (one ∷ later) = step (eqb doc.0 one.doc.0) (marked_then later)
    where
      changed : LabelledDocument
      changed = record one { ruling = Some grade }

      step : (t : Bool) → is_labelled_document (with_ruling_at doc grade later) other ≡ is_labelled_document later other
          → is_labelled_document (cond t (changed ∷ later) (one ∷ with_ruling_at doc grade later)) other ≡ is_labelled_document (one ∷ later) other
      step true rest = refl
      step false rest = ap (λ more. eqb other.0 one.doc.0 || more) rest

pub docs_then : (doc : DocId) (grade : ℕ) (marked : List LabelledDocument) → labelled_docs (with_ruling_at doc grade marked) ≡ labelled_docs marked
docs_then doc grade [] = refl
docs_then doc grade (one ∷ later) = step (eqb doc.0 one.doc.0) (docs_then doc grade later)
  where
    changed : LabelledDocument
    changed = record one { ruling = Some grade }

    step : (t : Bool) → labelled_docs (with_ruling_at doc grade later) ≡ labelled_docs later
        → labelled_docs (cond t (changed ∷ later) (one ∷ with_ruling_at doc grade later)) ≡ labelled_docs (one ∷ later)
    step true rest = refl
    step false rest = ap (λ docs. one.doc ∷ docs) rest

-- ---- the documents, in their order

pub docs_again : (doc : DocId) (assessor : List ℕ) (grade : ℕ) (marked : List LabelledDocument) → is_labelled_document marked doc ≡ true
    → labelled_docs (with_label_at doc assessor grade marked) ≡ labelled_docs marked
docs_again doc assessor grade [] there = absurd (cc)
docs_again doc assessor grade (one ∷ marked) there = step (docs_again doc assessor grade marked) (eqb doc.0 one.doc.0) there
  where
    step : (is_labelled_document marked doc ≡ true → labelled_docs (with_label_at doc assessor grade marked) ≡ labelled_docs marked)
        → (t : Bool) → (t || is_labelled_document marked doc) ≡ true
        → labelled_docs (cond t (record one { given = with_label assessor grade one.given } ∷ marked) (one ∷ with_label_at doc assessor grade marked))
        ≡ one.doc ∷ labelled_docs marked
    step rest true h = refl
    step rest false h = ap (λ docs. one.doc ∷ docs) (rest h)

pub docs_first : (doc : DocId) (assessor : List ℕ) (grade : ℕ) (marked : List LabelledDocument) → is_labelled_document marked doc ≡ false
    → labelled_docs (with_label_at doc assessor grade marked) ≡ labelled_docs marked ++ doc ∷ []
docs_first doc assessor grade [] none = refl
docs_first doc assessor grade (one ∷ marked) none = step (docs_first doc assessor grade marked) (eqb doc.0 one.doc.0) none
  where
    step : (is_labelled_document marked doc ≡ false → labelled_docs (with_label_at doc assessor grade marked) ≡ labelled_docs marked ++ doc ∷ [])
        → (t : Bool) → (t || is_labelled_document marked doc) ≡ false
        → labelled_docs (cond t (record one { given = with_label assessor grade one.given } ∷ marked) (one ∷ with_label_at doc assessor grade marked))
        ≡ one.doc ∷ (labelled_docs marked ++ doc ∷ [])
    step rest true h = absurd (cc)
    step rest false h = ap (λ docs. one.doc ∷ docs) (rest h)

pub docs_ruled : (doc : DocId) (grade : ℕ) (marked : List LabelledDocument) → labelled_docs (with_ruling_at doc grade marked) ≡ labelled_docs marked
docs_ruled doc grade [] = refl
docs_ruled doc grade (one ∷ marked) = step (docs_ruled doc grade marked) (eqb doc.0 one.doc.0)
  where
    step : labelled_docs (with_ruling_at doc grade marked) ≡ labelled_docs marked → (t : Bool)
        → labelled_docs (cond t (record one { ruling = Some grade } ∷ marked) (one ∷ with_ruling_at doc grade marked)) ≡ one.doc ∷ labelled_docs marked
    step rest true = refl
    step rest false = ap (λ docs. one.doc ∷ docs) rest

-- ---- each document that is there has a label

abbrev pub EachLabelled : List LabelledDocument → Type 0
EachLabelled marked = (doc : DocId) → is_labelled_document marked doc ≡ nat_lt 0 (length (given_at marked doc))

some_label : (assessor : List ℕ) (grade : ℕ) (given : List Given) → true ≡ nat_lt 0 (length (with_label assessor grade given))
some_label assessor grade [] = refl
some_label assessor grade (label ∷ given) = step (bytes_eq label.assessor assessor)
  where
    step : (t : Bool) → true ≡ nat_lt 0 (length (cond t (record label { grade = grade } ∷ given) (label ∷ with_label assessor grade given)))
    step true = grind (arith, nat_tests)
    step false = grind (arith, nat_tests)

pub labelled_after : (doc : DocId) (assessor : List ℕ) (grade : ℕ) (marked : List LabelledDocument)
    → EachLabelled marked → EachLabelled (with_label_at doc assessor grade marked)
labelled_after doc assessor grade marked each other =
    marked_after doc other assessor grade marked ∙ step (eqb other.0 doc.0)
    ∙ sym (ap (λ given. nat_lt 0 (length given)) (given_after doc other assessor grade marked))
  where
    step : (t : Bool)
        → (t || is_labelled_document marked other) ≡ nat_lt 0 (length (cond t (with_label assessor grade (given_at marked doc)) (given_at marked other)))
    step true = some_label assessor grade (given_at marked doc)
    step false = each other

pub labelled_then : (doc : DocId) (grade : ℕ) (marked : List LabelledDocument) → EachLabelled marked → EachLabelled (with_ruling_at doc grade marked)
labelled_then doc grade marked each other =
    marked_then doc other grade marked ∙ each other ∙ sym (ap (λ given. nat_lt 0 (length given)) (given_then doc other grade marked))
