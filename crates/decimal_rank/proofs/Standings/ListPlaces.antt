-- Places of documents in a list.
use Rattle.std.proofs.Common.{◌≡◌, ◌≢◌, ℕ, ◌+◌, ◌-◌, ◌<◌, ◌≤◌, Bool, true, false, cond, not, ltb, eqb, List, [], ◌∷◌, ◌++◌, length, map, take, get_or, Some, None, Option, is_some, slice_get, IfSome, IfNone, refl, sym, ap, ◌∙◌, arith, length-append, add-zero, subst, le_of_lt}
use Rattle.std.specs.List.{position, position_or_len, enumerate_from, All, Any}
use Rattle.std.specs.Option.{option_map}
use Rattle.std.proofs.lemmas.Bool.Decides.{nat_tests}
use Rattle.std.proofs.lemmas.List.{take_more, take-map, get_or-map, get_or-take, length-map, map-append, length-take-le}
use Rattle.std.proofs.lemmas.List.FromFn.{length-enumerate_from, get_or-enumerate_from}
use Rattle.std.proofs.lemmas.List.Sorted.{All-permutation, IsPermutation-sym}
use Rattle.std.proofs.lemmas.List.Folds.{position_or_len_push}
use Rattle.std.proofs.lemmas.List.Quantifiers.{all_pairs_push}
use Rattle.std.proofs.lemmas.List.Quantifiers.{position-Some}
use Rattle.std.proofs.lemmas.Option.{same_Some, slice_get-get_or}
use borrow.Author.Tests.{eqb-true, lt-ltb}
use Rattle.std.proofs.lemmas.List.Sums.{position_or_len_is, prefix_len-le-length}
use Rattle.std.proofs.lemmas.Bool.{ne_eqb}
use Rattle.decimal_rank.specs.declared.naming.DocId.{DocId}
use Rattle.decimal_rank.specs.declared.rankings.Entry.{Entry}
use Rattle.decimal_rank.specs.declared.rankings.Scored.{Scored}
use Rattle.decimal_rank.specs.Rankings.Places.{AreDistinct, place_in, IsFirstRepeat}
use Rattle.decimal_rank.specs.Rankings.Entries.{entries_in, AreEntries}
use Rattle.decimal_rank.proofs.TruthValues.{eqb_itself}
use Rattle.decimal_rank.proofs.Lists.{enumerate-push}

-- the place of what passes, where its test comes to one
position_is : {X : Type 0} (p : X → Bool) (xs : List X) (n : ℕ) → position_or_len p xs ≡ n → n < length xs → position p xs ≡ Some n
position_is p xs n e lt =
    ap (λ k. cond (ltb k (length xs)) (Some k) None) e ∙ ap (λ t. cond t (Some n) None) (lt-ltb n (length xs) lt)

abbrev pub numbered : ℕ → DocId
numbered n = record { 0 = n }

pub same_number : (d e : DocId) → d.0 ≡ e.0 → d ≡ e
same_number d e h = ap numbered h

-- the document at a place has this place
pub place_at : (docs : List DocId) (k : ℕ) (d : DocId) → AreDistinct docs → k < length docs → place_in docs (get_or docs k d) ≡ Some (k + 1)
place_at docs k d distinct lt =
    let p = λ (x : DocId). eqb x.0 (get_or docs k d).0 in
    ap (option_map (λ i. i + 1)) (position_is p docs k
    (position_or_len_is p docs k d (omega arith)
    (λ j h. ne_eqb (get_or docs j d).0 (get_or docs k d).0 (λ e. distinct j k d h lt (same_number _ _ e)))
    (λ _. eqb_itself (get_or docs k d).0))
    lt)

-- a document that stands nowhere has no place
pub place_none : (docs : List DocId) (doc : DocId) → ((k : ℕ) (d : DocId) → k < length docs → get_or docs k d ≢ doc) → place_in docs doc ≡ None
place_none docs doc away =
    let p = λ (x : DocId). eqb x.0 doc.0 in
    let at : position_or_len p docs ≡ length docs =
    position_or_len_is p docs (length docs) doc (omega arith) (λ j h. ne_eqb (get_or docs j doc).0 doc.0 (λ e. away j doc h (same_number _ _ e)))
    (λ h. absurd (omega arith)) in
    ap (option_map (λ i. i + 1))
    (ap (λ n. cond (ltb n (length docs)) (Some n) None) at ∙ ap (λ t. cond t (Some (length docs)) None) (irreflexive (length docs)))
  where
    irreflexive : (n : ℕ) → ltb n n ≡ false
    irreflexive n = grind (arith, nat_tests)

-- ---- entries

abbrev pub entry_of : ℕ × DocId → Entry
entry_of p = record { doc = p.1.0; place = p.0 }

pub entries_in-push : (docs : List DocId) (doc : DocId) → entries_in (docs ++ doc ∷ []) ≡ entries_in docs ++ entry_of (1 + length docs, doc) ∷ []
entries_in-push docs doc =
    ap (map entry_of) (enumerate-push 1 docs doc) ∙ map-append entry_of (enumerate_from 1 docs) ((1 + length docs, doc) ∷ [])

pub entries_in-more : (docs : List DocId) (i : ℕ) (d : DocId) → i < length docs
    → entries_in (take (i + 1) docs) ≡ entries_in (take i docs) ++ entry_of (i + 1, get_or docs i d) ∷ []
entries_in-more docs i d lt =
    ap entries_in (take_more docs i d lt) ∙ entries_in-push (take i docs) (get_or docs i d)
    ∙ ap (λ k. entries_in (take i docs) ++ entry_of (k, get_or docs i d) ∷ [])
    (let e : 1 + length (take i docs) ≡ i + 1 = omega (arith, length-take-le i docs (le_of_lt lt)) in e)

-- the documents of the first lines
abbrev pub docs_to : ℕ → List Scored → List DocId
docs_to i lines = map (λ line. line.doc) (take i lines)

-- ---- one more document

abbrev at_number : DocId → DocId → Bool
at_number doc d = eqb d.0 doc.0

-- where a place is, the document stands there
pub place_found : (docs : List DocId) (doc : DocId) (n : ℕ) → place_in docs doc ≡ Some n → (1 ≤ n) × (n ≤ length docs) × (get_or docs (n - 1) doc ≡ doc)
place_found docs doc n h = found (position (at_number doc) docs) refl h
  where
    found : (r : Option ℕ) → position (at_number doc) docs ≡ r → option_map (λ i. i + 1) r ≡ Some n
        → (1 ≤ n) × (n ≤ length docs) × (get_or docs (n - 1) doc ≡ doc)
    found None e k = cc
    found (Some i) e k =
        let at = position-Some (at_number doc) docs i doc e in
        let is : i + 1 ≡ n = same_Some (i + 1) n k in
        let here : get_or docs i doc ≡ doc = same_number _ _ (eqb-true (get_or docs i doc).0 doc.0 at.1) in
        (omega arith, omega (arith, at.0), ap (λ m. get_or docs m doc) (let back : n - 1 ≡ i = omega arith in back) ∙ here)

below : (m k : ℕ) → m < k → ltb m k ≡ true
below m k h = lt-ltb m k h

above : (m k : ℕ) → k ≤ m → ltb m k ≡ false
above m k h = grind (arith, nat_tests)

abbrev place : ℕ → ℕ → Option ℕ
place n len = option_map (λ i. i + 1) (cond (ltb n len) (Some n) None)

place-within : (n len : ℕ) → n < len → place n len ≡ Some (n + 1)
place-within n len h = ap (λ t. option_map (λ i. i + 1) (cond t (Some n) None)) (below n len h)

place-past : (n len : ℕ) → len ≤ n → place n len ≡ None
place-past n len h = ap (λ t. option_map (λ i. i + 1) (cond t (Some n) None)) (above n len h)

-- what a place becomes behind one more element
pushed_place : (n len : ℕ) (here : Bool) → n ≤ len
    → place (cond (eqb n len) (len + cond here 0 1) n) (len + 1) ≡ cond (is_some (place n len)) (place n len) (cond here (Some (len + 1)) None)
pushed_place n len here le = by (eqb n len) refl here
  where
    by : (t : Bool) → eqb n len ≡ t → (here : Bool)
        → place (cond t (len + cond here 0 1) n) (len + 1) ≡ cond (is_some (place n len)) (place n len) (cond here (Some (len + 1)) None)
    by true e true =
        place-within (len + 0) (len + 1) (omega arith) ∙ ap (λ m. Some (m + 1)) (add-zero len)
        ∙ sym (ap (λ r. cond (is_some r) r (Some (len + 1))) (place-past n len (omega (arith, eqb-true n len e))))
    by true e false =
        place-past (len + 1) (len + 1) (omega arith) ∙ sym (ap (λ r. cond (is_some r) r None) (place-past n len (omega (arith, eqb-true n len e))))
    by false e here =
        let lt : n < len = grind (arith, nat_tests) in
        place-within n (len + 1) (omega arith) ∙ sym (ap (λ r. cond (is_some r) r (cond here (Some (len + 1)) None)) (place-within n len lt))

pub place_in-push : (docs : List DocId) (last doc : DocId)
    → place_in (docs ++ last ∷ []) doc ≡ cond (is_some (place_in docs doc)) (place_in docs doc) (cond (eqb last.0 doc.0) (Some (length docs + 1)) None)
place_in-push docs last doc =
    let p = at_number doc in
    ap (λ len. option_map (λ i. i + 1) (cond (ltb (position_or_len p (docs ++ last ∷ [])) len) (Some (position_or_len p (docs ++ last ∷ []))) None))
    (length-append docs (last ∷ []))
    ∙ ap (λ n. option_map (λ i. i + 1) (cond (ltb n (length docs + 1)) (Some n) None)) (position_or_len_push p docs last)
    ∙ pushed_place (position_or_len p docs) (length docs) (eqb last.0 doc.0) (prefix_len-le-length (λ x. not (p x)) docs)

-- ---- what a map notes of the documents so far

-- a key's place after its document was noted where it had none
pub noted : (docs : List DocId) (last : DocId) (old new : ℕ → Option ℕ) → ((q : ℕ) → old q ≡ place_in docs (numbered q)) → old last.0 ≡ None
    → ((q : ℕ) → new q ≡ cond (eqb last.0 q) (Some (length docs + 1)) (old q)) → (q : ℕ) → new q ≡ place_in (docs ++ last ∷ []) (numbered q)
noted docs last old new was none is q = is q ∙ by (eqb last.0 q) refl ∙ sym (place_in-push docs last (numbered q))
  where
    none_of : (r : Option ℕ) → r ≡ cond (is_some r) r None
    none_of None = refl
    none_of (Some n) = refl

    by : (t : Bool) → eqb last.0 q ≡ t
        → cond (eqb last.0 q) (Some (length docs + 1)) (old q)
        ≡ cond (is_some (place_in docs (numbered q))) (place_in docs (numbered q)) (cond (eqb last.0 q) (Some (length docs + 1)) None)
    by true e =
        let here : last.0 ≡ q = eqb-true last.0 q e in
        let free : place_in docs (numbered q) ≡ None = sym (was q) ∙ ap old (sym here) ∙ none in
        ap (λ t. cond t (Some (length docs + 1)) (old q)) e
        ∙ sym (ap (λ r. cond (is_some r) r (cond (eqb last.0 q) (Some (length docs + 1)) None)) free ∙ ap (λ t. cond t (Some (length docs + 1)) None) e)
    by false e =
        ap (λ t. cond t (Some (length docs + 1)) (old q)) e ∙ was q ∙ none_of (place_in docs (numbered q))
        ∙ sym (ap (λ t. cond (is_some (place_in docs (numbered q))) (place_in docs (numbered q)) (cond t (Some (length docs + 1)) None)) e)

-- distinct documents and one that has no place among them
pub distinct-push : (docs : List DocId) (last : DocId) → AreDistinct docs → place_in docs last ≡ None → AreDistinct (docs ++ last ∷ [])
distinct-push docs last distinct none =
    all_pairs_push (λ d e. d ≢ e) docs last distinct (λ k d lt e. none_is_some (k + 1) (sym none ∙ ap (place_in docs) (sym e) ∙ place_at docs k d distinct lt))
  where
    none_is_some : (n : ℕ) → None ≡ Some n → ⊥
    none_is_some n e = cc

pub docs_to-more : (lines : List Scored) (i : ℕ) (d : Scored) → i < length lines → docs_to (i + 1) lines ≡ docs_to i lines ++ (get_or lines i d).doc ∷ []
docs_to-more lines i d lt = ap (map (λ line. line.doc)) (take_more lines i d lt) ∙ map-append (λ line. line.doc) (take i lines) (get_or lines i d ∷ [])

pub length-docs_to : (lines : List Scored) (i : ℕ) → i ≤ length lines → length (docs_to i lines) ≡ i
length-docs_to lines i le = length-map (take i lines) (λ line. line.doc) ∙ length-take-le i lines le

-- a line whose document had a place repeats the line there
pub repeats : (lines : List Scored) (i n : ℕ) (line : Scored) → i < length lines → line ≡ get_or lines i line → AreDistinct (docs_to i lines)
    → place_in (docs_to i lines) line.doc ≡ Some n → IsFirstRepeat (map (λ line. line.doc) lines) n (i + 1)
repeats lines i n line lt is distinct found =
    let docs = map (λ (line : Scored). line.doc) lines in
    let f = place_found (docs_to i lines) line.doc n found in
    let len = length-docs_to lines i (le_of_lt lt) in
    let whole : length docs ≡ length lines = length-map lines (λ line. line.doc) in
    let front : docs_to i lines ≡ take i docs = sym (take-map (λ line. line.doc) i lines) in
    let first : get_or docs (n - 1) line.doc ≡ line.doc =
    sym (get_or-take i docs (n - 1) line.doc (omega (arith, f.0, f.1, len))) ∙ ap (λ ds. get_or ds (n - 1) line.doc) (sym front) ∙ f.2 in
    let second : get_or docs i line.doc ≡ line.doc = get_or-map (λ line. line.doc) lines i line line.doc lt ∙ ap (λ l. l.doc) (sym is) in
    record {
      from_one = f.0;
      later = omega (arith, f.1, len);
      within = omega arith;
      same = slice_get-get_or docs (n - 1) line.doc (omega (arith, f.0, f.1, len, whole)) ∙ ap Some (first ∙ sym second)
          ∙ sym (ap (slice_get docs) (let back : i + 1 - 1 ≡ i = omega arith in back) ∙ slice_get-get_or docs i line.doc (omega arith));
      least = subst AreDistinct (front ∙ ap (λ k. take k docs) (let back : i ≡ i + 1 - 1 = omega arith in back)) distinct;
    }

-- ---- a place by the entries

get_or-entries_in : (docs : List DocId) (k : ℕ) (e : Entry) (d : DocId) → k < length docs → get_or (entries_in docs) k e ≡ entry_of (1 + k, get_or docs k d)
get_or-entries_in docs k e d lt =
    get_or-map entry_of (enumerate_from 1 docs) k (0, d) e (omega (arith, length-enumerate_from 1 docs))
    ∙ ap entry_of (get_or-enumerate_from 1 docs k (0, d) lt)

pub length-entries_in : (docs : List DocId) → length (entries_in docs) ≡ length docs
length-entries_in docs = length-map (enumerate_from 1 docs) entry_of ∙ length-enumerate_from 1 docs

placed_each : (docs : List DocId) → AreDistinct docs → All (λ entry. place_in docs (numbered entry.doc) ≡ Some entry.place) (entries_in docs)
placed_each docs distinct k e lt =
    let within : k < length docs = omega (arith, length-entries_in docs) in
    let is = get_or-entries_in docs k e (numbered 0) within in
    ap (λ entry. place_in docs (numbered entry.doc)) is ∙ place_at docs k (numbered 0) distinct within
    ∙ ap Some (let e : k + 1 ≡ 1 + k = omega arith in e) ∙ sym (ap (λ entry. Some entry.place) is)

pub place_by_entries : (docs : List DocId) (entries : List Entry) (doc : DocId) (r : Option ℕ) → AreDistinct docs → AreEntries docs entries
    → IfSome r (λ place. Any (λ entry. (entry.doc ≡ doc.0) × (entry.place ≡ place)) entries)
    → IfNone r (All (λ entry. entry.doc ≢ doc.0) entries) → r ≡ place_in docs doc
place_by_entries docs entries doc (Some place) distinct a found none =
    let each = All-permutation (λ entry. place_in docs (numbered entry.doc) ≡ Some entry.place) (entries_in docs) entries a.same (placed_each docs distinct) in
    let at = each found.0 found.1 found.2 in
    sym (ap (λ n. place_in docs (numbered n)) (sym found.4.0) ∙ ap (λ entry. place_in docs (numbered entry.doc)) (sym found.3)
    ∙ at ∙ ap (λ entry. Some entry.place) found.3 ∙ ap Some found.4.1)
place_by_entries docs entries doc None distinct a found none =
    let away = All-permutation (λ entry. entry.doc ≢ doc.0) entries (entries_in docs) (IsPermutation-sym (entries_in docs) entries a.same) none in
    sym (place_none docs doc
    (λ k d lt e. away k (entry_of (0, d)) (omega (arith, length-entries_in docs))
    (ap (λ entry. entry.doc) (get_or-entries_in docs k (entry_of (0, d)) d lt) ∙ ap (λ x. x.0) e)))
