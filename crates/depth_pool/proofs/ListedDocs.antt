-- The documents that the index lists, by docno.
use Rattle.std.proofs.Common.{◌≡◌, ◌≢◌, ℕ, ◌<◌, Bool, true, false, cond, ◌||◌, nat_lt, eqb, List, [], ◌∷◌, length, map, filter, get_or, Option, Some, refl, sym, ap, ◌∙◌, arith, le_of_lt, Less}
use Rattle.std.specs.BTreeMap.{is_at}
use Rattle.std.specs.Cmp.Lexicographic.{slice_cmp}
use Rattle.std.specs.List.{All, AllPairs, AllByRecursion, IsDistinct}
use Rattle.std.specs.List.Sorted.{IsSortedBy, IsStrictlySortedBy}
use Rattle.std.specs.Map.{keys_of, lookup}
use Rattle.std.specs.Option.{option_map_or}
use Rattle.std.specs.Ordering.{nat_cmp, is_eq, is_lt}
use Rattle.std.specs.declared.cmp.Ordering.{Ordering}
use Rattle.std.specs.Str.{bytes_eq}
use Rattle.std.proofs.lemmas.Bool.{false≢true, eq-eqb}
use Rattle.std.proofs.lemmas.Cmp.{nat_list_cmp_total}
use Rattle.std.proofs.lemmas.List.Folds.{list_any_at}
use Rattle.std.proofs.lemmas.List.Sorted.{sorted_far, ranks_by}
use Rattle.std.proofs.lemmas.Map.Keys.{sorted_head, sorted_tail, IsDistinct-cons, apart_from_distinct}
use Rattle.std.proofs.lemmas.Map.Text.{is_eq-slice_cmp}
use borrow.Author.Tests.{eqb-true}
use Rattle.std.proofs.lemmas.List.Elements.{All-tail}
use Rattle.smallvec.specs.SmallVec.{SmallVec}
use Rattle.decimal_rank.specs.Names.{docno_of}
use Rattle.decimal_rank.specs.declared.naming.DocId.{DocId}
use Rattle.decimal_rank.proofs.Standings.Docnos.{names_differ, strictly}
use Rattle.decimal_rank.proofs.TruthValues.{eqb_swap, eqb_itself}
use Rattle.depth_pool.specs.declared.runs.RunId.{RunId}
use Rattle.depth_pool.specs.Holdings.{Held, has_doc, some_run_holds}
use Rattle.depth_pool.specs.Index.{doc_cmp, held_docs, is_held}
use Rattle.depth_pool.proofs.Writes.{is_eq-nat_cmp}

abbrev pub IndexEntry : Type 0
IndexEntry = DocId × SmallVec RunId

-- ---- which documents are listed

less_differs : (m n : ℕ) → nat_cmp m n ≡ Less → eqb m n ≡ false
less_differs m n h = sym (is_eq-nat_cmp m n) ∙ ap is_eq h

pub listed-cons : (entry : IndexEntry) (entries : List IndexEntry)
    → held_docs (entry ∷ entries) ≡ cond (is_held entry) (entry.0 ∷ held_docs entries) (held_docs entries)
listed-cons entry entries = step (is_held entry)
  where
    step : (t : Bool) → map (λ e. e.0) (cond t (entry ∷ filter is_held entries) (filter is_held entries))
        ≡ cond t (entry.0 ∷ held_docs entries) (held_docs entries)
    step true = refl
    step false = refl

none_later : (doc key : DocId) (entries : List IndexEntry) → key.0 ≡ doc.0 → AllByRecursion (λ other. doc_cmp key other ≡ Less) (keys_of entries)
    → has_doc doc (held_docs entries) ≡ false
none_later doc key [] same later = refl
none_later doc key (entry ∷ entries) same later =
    ap (has_doc doc) (listed-cons entry entries) ∙ step (is_held entry) (none_later doc key entries same later.1)
  where
    other : eqb entry.0.0 doc.0 ≡ false
    other = eqb_swap entry.0.0 doc.0 ∙ ap (λ n. eqb n entry.0.0) (sym same) ∙ less_differs key.0 entry.0.0 later.0

    step : (t : Bool) → has_doc doc (held_docs entries) ≡ false → has_doc doc (cond t (entry.0 ∷ held_docs entries) (held_docs entries)) ≡ false
    step true rest = ap (λ t. t || has_doc doc (held_docs entries)) other ∙ rest
    step false rest = rest

abbrev holders_in : Option (SmallVec RunId) → List RunId
holders_in found = option_map_or (λ holders. holders.items) found []

-- a document is listed where a run stands at it
pub listed : (doc : DocId) (entries : List IndexEntry) → IsStrictlySortedBy doc_cmp (keys_of entries)
    → has_doc doc (held_docs entries) ≡ nat_lt 0 (length (holders_in (lookup (is_at (doc_cmp doc)) entries)))
listed doc [] sorted = refl
listed doc (entry ∷ entries) sorted =
    ap (has_doc doc) (listed-cons entry entries)
    ∙ step (eqb doc.0 entry.0.0) refl (is_held entry) refl (listed doc entries (sorted_tail doc_cmp entry.0 (keys_of entries) sorted))
    ∙ ap (λ t. nat_lt 0 (length (holders_in (cond t (Some entry.1) (lookup (is_at (doc_cmp doc)) entries))))) (sym (is_eq-nat_cmp doc.0 entry.0.0))
  where
    step : (here : Bool) → eqb doc.0 entry.0.0 ≡ here → (t : Bool) → is_held entry ≡ t
        → has_doc doc (held_docs entries) ≡ nat_lt 0 (length (holders_in (lookup (is_at (doc_cmp doc)) entries)))
        → has_doc doc (cond t (entry.0 ∷ held_docs entries) (held_docs entries))
        ≡ nat_lt 0 (length (holders_in (cond here (Some entry.1) (lookup (is_at (doc_cmp doc)) entries))))
    step true e true held rest = ap (λ t. t || has_doc doc (held_docs entries)) (eqb_swap entry.0.0 doc.0 ∙ e) ∙ sym held
    step true e false held rest = none_later doc entry.0 entries (sym (eqb-true _ _ e)) (sorted_head doc_cmp entry.0 (keys_of entries) sorted) ∙ sym held
    step false e true held rest = ap (λ t. t || has_doc doc (held_docs entries)) (eqb_swap entry.0.0 doc.0 ∙ e) ∙ rest
    step false e false held rest = rest

-- ---- each once

abbrev pub same_doc : DocId → DocId → Bool
same_doc a b = eqb a.0 b.0

later_differ : (key : DocId) (entries : List IndexEntry) → AllByRecursion (λ other. doc_cmp key other ≡ Less) (keys_of entries)
    → AllByRecursion (λ other. same_doc key other ≡ false) (held_docs entries)
later_differ key [] later = tt
later_differ key (entry ∷ entries) later = rw (listed-cons entry entries) (step (is_held entry) (later_differ key entries later.1))
  where
    step : (t : Bool) → AllByRecursion (λ other. same_doc key other ≡ false) (held_docs entries)
        → AllByRecursion (λ other. same_doc key other ≡ false) (cond t (entry.0 ∷ held_docs entries) (held_docs entries))
    step true rest = (less_differs key.0 entry.0.0 later.0, rest)
    step false rest = rest

pub listed_once : (entries : List IndexEntry) → IsStrictlySortedBy doc_cmp (keys_of entries) → IsDistinct same_doc (held_docs entries)
unfolding IsDistinct
listed_once [] sorted = tt
listed_once (entry ∷ entries) sorted =
    rw (listed-cons entry entries)
    (step (is_held entry) (later_differ entry.0 entries (sorted_head doc_cmp entry.0 (keys_of entries) sorted))
    (listed_once entries (sorted_tail doc_cmp entry.0 (keys_of entries) sorted)))
  where
    step : (t : Bool) → AllByRecursion (λ other. same_doc entry.0 other ≡ false) (held_docs entries) → IsDistinct same_doc (held_docs entries)
        → IsDistinct same_doc (cond t (entry.0 ∷ held_docs entries) (held_docs entries))
    step true apart rest = IsDistinct-cons same_doc entry.0 (held_docs entries) apart rest
    step false apart rest = rest

-- ---- by docno

abbrev pub docno_cmp : List (List ℕ) → DocId → DocId → Ordering
docno_cmp names a b = slice_cmp nat_cmp (docno_of names a.0) (docno_of names b.0)

pub ascend : (names : List (List ℕ)) (docs : List DocId) → IsDistinct bytes_eq names → IsDistinct same_doc docs → All (λ doc. doc.0 < length names) docs
    → IsSortedBy (λ a b. is_lt (docno_cmp names a b)) docs → AllPairs (λ a b. is_lt (docno_cmp names a b) ≡ true) docs
ascend names docs named once within sorted i j d h lt =
    let a = get_or docs i d in
    let b = get_or docs j d in
    let apart : a.0 ≢ b.0 = λ e. false≢true (sym (apart_from_distinct same_doc docs i j d once h lt) ∙ eq-eqb a.0 b.0 e) in
    let differ : is_eq (docno_cmp names a b) ≡ false = is_eq-slice_cmp (docno_of names a.0) (docno_of names b.0)
    ∙ names_differ names a.0 b.0 named apart (within i d (omega arith)) (within j d lt) in
    let far : is_lt (docno_cmp names b a) ≡ false =
    sorted_far (λ (x y : DocId). is_lt (docno_cmp names x y))
    (ranks_by nat_list_cmp_total (λ (x : DocId). docno_of names x.0)) docs sorted i j d (le_of_lt h) lt in
    strictly (docno_cmp names a b) differ (ap is_lt (sym (nat_list_cmp_total.antisymm (docno_of names b.0) (docno_of names a.0))) ∙ far)

-- ---- the documents are in the names

in_range : (n : ℕ) (docs : List DocId) → All (λ doc. doc.0 < n) docs → (doc : DocId) → has_doc doc docs ≡ true → doc.0 < n
in_range n [] all doc h = absurd (false≢true h)
in_range n (other ∷ docs) all doc h = step (eqb other.0 doc.0) refl (in_range n docs (All-tail (λ d. d.0 < n) other docs all) doc) h
  where
    step : (t : Bool) → eqb other.0 doc.0 ≡ t → (has_doc doc docs ≡ true → doc.0 < n) → (t || has_doc doc docs) ≡ true → doc.0 < n
    step true e later any = let low = all 0 other (omega arith) in let is = eqb-true _ _ e in omega arith
    step false e later any = later any

pub held_in_range : (n : ℕ) (runs : List Held) → All (λ held. All (λ doc. doc.0 < n) held.docs) runs
    → (doc : DocId) → some_run_holds doc runs ≡ true → doc.0 < n
held_in_range n [] all doc h = absurd (false≢true h)
held_in_range n (held ∷ runs) all doc h =
    step (has_doc doc held.docs) refl (held_in_range n runs (All-tail (λ r. All (λ d. d.0 < n) r.docs) held runs all) doc) h
  where
    step : (t : Bool) → has_doc doc held.docs ≡ t → (some_run_holds doc runs ≡ true → doc.0 < n) → (t || some_run_holds doc runs) ≡ true → doc.0 < n
    step true e later any = in_range n held.docs (all 0 held (omega arith)) doc e
    step false e later any = later any

-- each document of a list passes as one of it
pub own : (docs : List DocId) (k : ℕ) (d : DocId) → k < length docs → has_doc (get_or docs k d) docs ≡ true
own docs k d h = list_any_at (λ other. eqb other.0 (get_or docs k d).0) docs k d h (eqb_itself (get_or docs k d).0)
