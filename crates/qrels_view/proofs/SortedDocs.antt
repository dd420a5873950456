-- Documents by docno: the list that a sort gives is the one of the definition.
use Rattle.std.proofs.Common.{◌≡◌, ◌≢◌, ℕ, zero, suc, ◌<◌, Bool, true, false, cond, eqb, List, [], ◌∷◌, length, get_or, Option, refl, sym, ap, ◌∙◌, arith, subst, le_of_lt, ◌⊎◌, inl, inr}
use Rattle.std.specs.Cmp.{IsStrictWeakOrder}
use Rattle.std.specs.List.{All, AllPairs, Contains, IsDistinct}
use Rattle.std.specs.List.Sorted.{IsPermutation, IsSortedBy}
use Rattle.std.specs.Map.{keys_of}
use Rattle.std.specs.Ordering.{is_eq, is_lt}
use Rattle.std.specs.Str.{bytes_eq}
use Rattle.std.proofs.lemmas.Bool.{false≢true, eq-eqb}
use Rattle.std.proofs.lemmas.Cmp.{nat_list_cmp_total}
use Rattle.std.proofs.lemmas.List.Elements.{All-cons, All-contains, All-nil, All-weaker}
use Rattle.std.proofs.lemmas.List.Kept.{AllPairs-cons}
use Rattle.std.proofs.lemmas.List.Sorted.{Contains-permutation, IsPermutation-cons, IsPermutation-middle, IsPermutation-refl, IsPermutation-sym, IsPermutation-trans, All-permutation, ranks_by, sorted_far}
use Rattle.std.proofs.lemmas.Map.Keys.{IsDistinct-IsPermutation, IsDistinct-from_apart, apart_from_distinct}
use Rattle.std.proofs.lemmas.Map.Text.{is_eq-slice_cmp}
use Rattle.decimal_rank.specs.Names.{docno_of}
use Rattle.decimal_rank.specs.Rankings.Places.{AreDistinct}
use Rattle.decimal_rank.specs.declared.naming.DocId.{DocId}
use Rattle.decimal_rank.proofs.Standings.Docnos.{names_differ, strictly}
use Rattle.decimal_rank.proofs.Lists.{pairs_head, pairs_tail, first_or_later, has_first, has_later, none_there}
use Rattle.decimal_rank.proofs.TruthValues.{eqb_swap}
use Rattle.qrels_view.specs.declared.grades.Graded.{Graded}
use Rattle.qrels_view.specs.Grades.{graded_docs, graded_of}
use Rattle.qrels_view.specs.Lines.{by_docno, docno_cmp, put_by_docno}
use Rattle.qrels_view.proofs.NewGrades.{GradeEntry}

-- ---- lists in a strict order

module _ {X : Type 0} (R : X → X → Type 0) (one_way : (x y : X) → R x y → R y x → ⊥) where
  same_first : (x y : X) (xs ys : List X) → AllPairs R (x ∷ xs) → AllPairs R (y ∷ ys) → Contains (y ∷ ys) x → Contains (x ∷ xs) y → x ≡ y
  same_first x y xs ys up also there back = step (first_or_later y ys x there) (first_or_later x xs y back)
    where
      step : (y ≡ x) ⊎ Contains ys x → (x ≡ y) ⊎ Contains xs y → x ≡ y
      step (inl e) other = sym e
      step (inr later) (inl e) = e
      step (inr later) (inr earlier) =
          absurd (one_way x y (All-contains (R x) xs y (pairs_head R x xs up) earlier) (All-contains (R y) ys x (pairs_head R y ys also) later))

  still_has : (x : X) (xs ys : List X) → AllPairs R (x ∷ xs) → ((z : X) → Contains (x ∷ xs) z → Contains (x ∷ ys) z) → (z : X) → Contains xs z → Contains ys z
  still_has x xs ys up goes z h = step (first_or_later x ys z (goes z (has_later x xs z h)))
    where
      step : (x ≡ z) ⊎ Contains ys z → Contains ys z
      step (inl e) = let self = All-contains (R x) xs x (pairs_head R x xs up) (subst (Contains xs) (sym e) h) in absurd (one_way x x self self)
      step (inr later) = later

  -- a list in a strict order is known by its members
  pub one_list : (xs ys : List X) → AllPairs R xs → AllPairs R ys → ((z : X) → Contains xs z → Contains ys z)
      → ((z : X) → Contains ys z → Contains xs z) → xs ≡ ys
  one_list [] [] up also there back = refl
  one_list [] (y ∷ ys) up also there back = absurd (none_there y (back y (has_first y ys)))
  one_list (x ∷ xs) [] up also there back = absurd (none_there x (there x (has_first x xs)))
  one_list (x ∷ xs) (y ∷ ys) up also there back =
      let first = same_first x y xs ys up also (there x (has_first x xs)) (back y (has_first y ys)) in
      let also_first : AllPairs R (x ∷ ys) = subst (λ a. AllPairs R (a ∷ ys)) (sym first) also in
      let goes : (z : X) → Contains (x ∷ xs) z → Contains (x ∷ ys) z = λ z h. subst (λ a. Contains (a ∷ ys) z) (sym first) (there z h) in
      let comes : (z : X) → Contains (x ∷ ys) z → Contains (x ∷ xs) z = λ z h. back z (subst (λ a. Contains (a ∷ ys) z) first h) in
      ap (λ rest. x ∷ rest) (one_list xs ys (pairs_tail R x xs up) (pairs_tail R y ys also) (still_has x xs ys up goes) (still_has x ys xs also_first comes))
      ∙ ap (λ a. a ∷ ys) first

-- ---- the definition

abbrev pub is_before : List (List ℕ) → Graded → Graded → Bool
is_before names a b = is_lt (docno_cmp names a.doc b.doc)

pub docno_order : (names : List (List ℕ)) → IsStrictWeakOrder (is_before names)
docno_order names = ranks_by nat_list_cmp_total (λ (one : Graded). docno_of names one.doc.0)

-- the later of two isn't before the earlier
abbrev IsNotAfter : List (List ℕ) → Graded → Graded → Type 0
IsNotAfter names a b = is_before names b a ≡ false

put_permutes : (names : List (List ℕ)) (one : Graded) (ys : List Graded) → IsPermutation (one ∷ ys) (put_by_docno names one ys)
put_permutes names one [] = IsPermutation-refl (one ∷ [])
put_permutes names one (y ∷ ys) = step (is_before names one y) (put_permutes names one ys)
  where
    step : (t : Bool) → IsPermutation (one ∷ ys) (put_by_docno names one ys)
        → IsPermutation (one ∷ y ∷ ys) (cond t (one ∷ y ∷ ys) (y ∷ put_by_docno names one ys))
    step true rest = IsPermutation-refl (one ∷ y ∷ ys)
    step false rest =
        IsPermutation-trans (one ∷ y ∷ ys) (y ∷ one ∷ ys) (y ∷ put_by_docno names one ys)
        (IsPermutation-sym (y ∷ one ∷ ys) (one ∷ y ∷ ys) (IsPermutation-middle (y ∷ []) one ys))
        (IsPermutation-cons y (one ∷ ys) (put_by_docno names one ys) rest)

pub permutes : (names : List (List ℕ)) (graded : List Graded) → IsPermutation graded (by_docno names graded)
permutes names [] = IsPermutation-refl []
permutes names (one ∷ later) =
    IsPermutation-trans (one ∷ later) (one ∷ by_docno names later) (put_by_docno names one (by_docno names later))
    (IsPermutation-cons one later (by_docno names later) (permutes names later)) (put_permutes names one (by_docno names later))

all_put : (names : List (List ℕ)) (P : Graded → Type 0) (one : Graded) (ys : List Graded) → P one → All P ys → All P (put_by_docno names one ys)
all_put names P one ys here all = All-permutation P (one ∷ ys) (put_by_docno names one ys) (put_permutes names one ys) (All-cons P one ys here all)

put_sorts : (names : List (List ℕ)) (one : Graded) (ys : List Graded) → AllPairs (IsNotAfter names) ys → AllPairs (IsNotAfter names) (put_by_docno names one ys)
put_sorts names one [] up = AllPairs-cons (IsNotAfter names) one [] (All-nil (IsNotAfter names one)) up
put_sorts names one (y ∷ ys) up = step (is_before names one y) refl (put_sorts names one ys (pairs_tail (IsNotAfter names) y ys up))
  where
    step : (t : Bool) → is_before names one y ≡ t → AllPairs (IsNotAfter names) (put_by_docno names one ys)
        → AllPairs (IsNotAfter names) (cond t (one ∷ y ∷ ys) (y ∷ put_by_docno names one ys))
    step true e rest =
        let back : is_before names y one ≡ false = (docno_order names).one_way one y e in
        AllPairs-cons (IsNotAfter names) one (y ∷ ys)
        (All-cons (IsNotAfter names one) y ys back
        (All-weaker (IsNotAfter names y) (IsNotAfter names one) (λ z h. (docno_order names).chain z y one h back) ys (pairs_head (IsNotAfter names) y ys up)))
        up
    step false e rest =
        AllPairs-cons (IsNotAfter names) y (put_by_docno names one ys)
        (all_put names (IsNotAfter names y) one ys e (pairs_head (IsNotAfter names) y ys up)) rest

sorts : (names : List (List ℕ)) (graded : List Graded) → AllPairs (IsNotAfter names) (by_docno names graded)
sorts names [] = λ i j d h lt. absurd (omega arith)
sorts names (one ∷ later) = put_sorts names one (by_docno names later) (sorts names later)

-- ---- each document once

abbrev pub same_doc : Graded → Graded → Bool
same_doc a b = eqb a.doc.0 b.doc.0

number_at : (entries : List GradeEntry) (i : ℕ) (d : Graded) → (get_or (graded_of entries) i d).doc.0 ≡ get_or (keys_of entries) i d.doc.0
number_at [] i d = refl
number_at (entry ∷ entries) zero d = refl
number_at (entry ∷ entries) (suc i) d = number_at entries i d

as_many : (entries : List GradeEntry) → length (graded_of entries) ≡ length (keys_of entries)
as_many [] = refl
as_many (entry ∷ entries) = ap suc (as_many entries)

pub each_once : (entries : List GradeEntry) → IsDistinct eqb (keys_of entries) → IsDistinct same_doc (graded_of entries)
each_once entries distinct = IsDistinct-from_apart same_doc (graded_of entries) (λ i j d h lt. apart i j d h lt)
  where
    apart : (i j : ℕ) (d : Graded) → i < j → j < length (graded_of entries) → same_doc (get_or (graded_of entries) i d) (get_or (graded_of entries) j d) ≡ false
    apart i j d h lt =
        let within : j < length (keys_of entries) = omega (arith, as_many entries) in
        ap (λ n. eqb n (get_or (graded_of entries) j d).doc.0) (number_at entries i d) ∙ ap (eqb (get_or (keys_of entries) i d.doc.0)) (number_at entries j d)
        ∙ apart_from_distinct eqb (keys_of entries) i j d.doc.0 distinct h within

pub doc_at : (graded : List Graded) (i : ℕ) (d : DocId) → get_or (graded_docs graded) i d ≡ (get_or graded i (record { doc = d; grade = Option.None })).doc
doc_at [] i d = refl
doc_at (one ∷ graded) zero d = refl
doc_at (one ∷ graded) (suc i) d = doc_at graded i d

pub docs_as_many : (graded : List Graded) → length (graded_docs graded) ≡ length graded
docs_as_many [] = refl
docs_as_many (one ∷ graded) = ap suc (docs_as_many graded)

pub docs_once : (graded : List Graded) → IsDistinct same_doc graded → AreDistinct (graded_docs graded)
docs_once graded distinct i j d h lt e =
    let none : Graded = record { doc = d; grade = Option.None } in
    let within : j < length graded = omega (arith, docs_as_many graded) in
    let same : (get_or graded i none).doc ≡ (get_or graded j none).doc = sym (doc_at graded i d) ∙ e ∙ doc_at graded j d in
    false≢true (sym (apart_from_distinct same_doc graded i j none distinct h within) ∙ eq-eqb _ _ (ap (λ (doc : DocId). doc.0) same))

-- ---- by docno

abbrev IsBefore : List (List ℕ) → Graded → Graded → Type 0
IsBefore names a b = is_before names a b ≡ true

ascend : (names : List (List ℕ)) (graded : List Graded) → IsDistinct bytes_eq names → IsDistinct same_doc graded → All (λ one. one.doc.0 < length names) graded
    → AllPairs (IsNotAfter names) graded → AllPairs (IsBefore names) graded
ascend names graded named once within sorted i j d h lt =
    let a = get_or graded i d in
    let b = get_or graded j d in
    let apart : a.doc.0 ≢ b.doc.0 = λ e. false≢true (sym (apart_from_distinct same_doc graded i j d once h lt) ∙ eq-eqb a.doc.0 b.doc.0 e) in
    let differ : is_eq (docno_cmp names a.doc b.doc) ≡ false =
    is_eq-slice_cmp (docno_of names a.doc.0) (docno_of names b.doc.0)
    ∙ names_differ names a.doc.0 b.doc.0 named apart (within i d (omega arith)) (within j d lt) in
    let far : is_lt (docno_cmp names b.doc a.doc) ≡ false = sorted i j d h lt in
    strictly (docno_cmp names a.doc b.doc) differ (ap is_lt (sym (nat_list_cmp_total.antisymm (docno_of names b.doc.0) (docno_of names a.doc.0))) ∙ far)

not_both : (names : List (List ℕ)) (a b : Graded) → IsBefore names a b → IsBefore names b a → ⊥
not_both names a b there back = false≢true (sym ((docno_order names).one_way a b there) ∙ back)

-- what a sort gives is the list of the definition
pub sorted_is : (names : List (List ℕ)) (graded sorted : List Graded) → IsDistinct bytes_eq names
    → IsDistinct same_doc graded → All (λ one. one.doc.0 < length names) graded
    → IsPermutation graded sorted → IsSortedBy (is_before names) sorted → sorted ≡ by_docno names graded
sorted_is names graded sorted named once within moved up =
    let listed = by_docno names graded in
    let also = permutes names graded in
    let flips = λ (x y : Graded). eqb_swap x.doc.0 y.doc.0 in
    let to = ascend names sorted named (IsDistinct-IsPermutation same_doc flips graded sorted moved once)
    (All-permutation (λ one. one.doc.0 < length names) graded sorted moved within)
    (λ i j d h lt. sorted_far (is_before names) (docno_order names) sorted up i j d (le_of_lt h) lt) in
    let from = ascend names listed named (IsDistinct-IsPermutation same_doc flips graded listed also once)
    (All-permutation (λ one. one.doc.0 < length names) graded listed also within) (sorts names graded) in
    one_list (IsBefore names) (not_both names) sorted listed to from
    (λ z h. Contains-permutation graded listed z also (Contains-permutation sorted graded z (IsPermutation-sym graded sorted moved) h))
    (λ z h. Contains-permutation graded sorted z moved (Contains-permutation listed graded z (IsPermutation-sym graded listed also) h))
