-- Lists in the order of standings.
use Rattle.std.proofs.Common.{Ordering, Less, Equal, Greater, ◌≡◌, ℕ, zero, suc, ◌+◌, ◌<◌, Bool, true, false, cond, List, [], ◌∷◌, length, map, get_or, refl, sym, ap, ◌∙◌, ◌==◌, Some, Decides, arith, zero-add}
use Rattle.std.specs.Cmp.{IsTotalOrder}
use Rattle.std.specs.List.{count_by, AllPairs, All, IsDistinct}
use Rattle.std.specs.Ordering.{is_lt, is_gt, nat_cmp, ordering_reverse, MatchOrdering}
use Rattle.std.proofs.lemmas.Cmp.{then_total, on_total, nat_list_cmp_total, tied_itself, ranked, nat_eq_equiv}
use Rattle.std.proofs.lemmas.List.Sums.{sum_by-cons}
use Rattle.std.proofs.lemmas.Bool.{false≢true}
use Rattle.std.proofs.lemmas.Bool.Decides.{Decides-eqb}
use Rattle.std.proofs.lemmas.List.{length-map, get_or-map}
use denote.Ref.{Bor}
use Rattle.std.specs.Cmp.{IsStrictWeakOrder}
use Rattle.std.proofs.lemmas.List.Sorted.{ranks_by, IsStrictWeakOrder-flip, IsPermutation-map, IsPermutation-sym, All-permutation, length_permutation, sum_by-IsPermutation}
use Rattle.std.proofs.lemmas.Map.Keys.{IsDistinct-IsPermutation}
use Rattle.std.proofs.lemmas.Map.Lookups.{exact_bytes}
use Rattle.std.proofs.lemmas.Map.Made.{AllPairs-from_IsDistinct, IsDistinct-from_AllPairs}
use Rattle.std.proofs.lemmas.Slice.Eq.{bytes_eq-Decides}
use Rattle.std.specs.Cmp.Lexicographic.{slice_cmp}
use Rattle.std.specs.List.Sorted.{IsPermutation}
use Rattle.std.specs.Str.{bytes_eq}
use Rattle.decimal_rank.specs.declared.naming.DocId.{DocId}
use Rattle.decimal_rank.specs.declared.rankings.Scored.{Scored}
use Rattle.decimal_rank.specs.Decimals.Decimal.{decimal_cmp}
use Rattle.decimal_rank.specs.Names.{docno_of}
use Rattle.decimal_rank.specs.Rankings.Places.{AreDistinct, place_in}
use Rattle.decimal_rank.specs.Rankings.Ranks.{Standing, standing_cmp, stands_before, rank_in, standing_of, IsRanking}
use Rattle.decimal_rank.proofs.Standings.ListPlaces.{same_number, place_at}
use Rattle.decimal_rank.proofs.Standings.Values.{decimal_cmp_total}
use Rattle.decimal_rank.proofs.Lists.{count_by-map}
use Rattle.decimal_rank.proofs.TruthValues.{second_equal}

pub standing_cmp_total : IsTotalOrder standing_cmp
unfolding standing_cmp
standing_cmp_total = then_total (on_total (λ d. d.score) decimal_cmp_total) (on_total (λ d. d.docno) nat_list_cmp_total)

pub count-none : {X : Type 0} (p : X → Bool) (xs : List X) → All (λ x. p x ≡ false) xs → count_by p xs ≡ 0
count-none p [] h = refl
count-none p (x ∷ xs) h =
    sum_by-cons (λ y. cond (p y) 1 0) x xs
    ∙ ap (λ t. cond t 1 0 + count_by p xs) (h 0 x (omega arith))
    ∙ zero-add (count_by p xs)
    ∙ count-none p xs (λ k d lt. h (suc k) d (omega arith))

-- x stands before y and y not before x
abbrev pub Strictly : {X : Type 0} → (X → X → Bool) → X → X → Type 0
Strictly R x y = (R x y ≡ true) × (R y x ≡ false)

-- where each element stands before each later one, k of them stand before the one at place k
pub count-before : {X : Type 0} (R : X → X → Bool) (xs : List X) (k : ℕ) (d : X) → ((x : X) → R x x ≡ false) → AllPairs (Strictly R) xs → k < length xs
    → count_by (λ e. R e (get_or xs k d)) xs ≡ k
count-before R [] k d irr pairs lt = absurd (omega arith)
count-before R (x ∷ xs) zero d irr pairs lt =
    sum_by-cons (λ e. cond (R e x) 1 0) x xs
    ∙ ap (λ t. cond t 1 0 + count_by (λ e. R e x) xs) (irr x)
    ∙ zero-add (count_by (λ e. R e x) xs)
    ∙ count-none (λ e. R e x) xs (λ j e h. (pairs 0 (suc j) e (omega arith) (omega arith)).1)
count-before R (x ∷ xs) (suc k) d irr pairs lt =
    sum_by-cons (λ e. cond (R e (get_or xs k d)) 1 0) x xs
    ∙ ap (λ t. cond t 1 0 + count_by (λ e. R e (get_or xs k d)) xs) (pairs 0 (suc k) d (omega arith) lt).0
    ∙ ap (λ n. 1 + n) (count-before R xs k d irr (λ i j e h l. pairs (suc i) (suc j) e (omega arith) (omega arith)) (omega arith))
    ∙ (let e : 1 + k ≡ suc k = omega arith in e)

-- ---- lines in the order of standings

-- what stands equal has one docno
pub one_docno : (s t : Standing) → standing_cmp s t ≡ Equal → s.docno ≡ t.docno
unfolding standing_cmp
one_docno s t e = exact_bytes s.docno t.docno (second_equal (decimal_cmp s.score t.score) (slice_cmp nat_cmp s.docno t.docno) e)

-- among distinct names one docno has one number
one_number : (names : List (List ℕ)) (m n : ℕ) → IsDistinct bytes_eq names → m < length names → n < length names → docno_of names m ≡ docno_of names n → m ≡ n
one_number names m n distinct lm ln e = by (nat_cmp m n) (ranked m n (nat_cmp m n) refl)
  where
    apart : (i j : ℕ) → i < j → j < length names → docno_of names i ≡ docno_of names j → ⊥
    apart i j lt l same = AllPairs-from_IsDistinct bytes_eq-Decides names distinct i j [] lt l same

    by : (r : Ordering) → MatchOrdering r (m < n) (m ≡ n) (n < m) → m ≡ n
    by Less h = absurd (apart m n h ln e)
    by Equal h = h
    by Greater h = absurd (apart n m h lm (sym e))

distinct_docs : (docs others : List DocId) → IsPermutation docs others → AreDistinct docs → AreDistinct others
distinct_docs docs others perm distinct =
    let same = λ (a b : DocId). same_doc a b in
    AllPairs-from_IsDistinct same others
    (IsDistinct-IsPermutation (λ a b. a.0 == b.0) (λ a b. nat_eq_equiv.symm a.0 b.0) docs others perm (IsDistinct-from_AllPairs same docs distinct))
  where
    same_doc : (a b : DocId) → Decides (a.0 == b.0) (a ≡ b)
    same_doc a b = let d = Decides-eqb a.0 b.0 in (λ e. same_number a b (d.0 e), λ e. d.1 (ap (λ x. x.0) e))

abbrev pub stands : List (List ℕ) → Scored → Scored → Bool
stands names a b = stands_before (standing_of names a) (standing_of names b)

stands_itself : (names : List (List ℕ)) (a : Scored) → stands names a a ≡ false
stands_itself names a = ap is_gt (tied_itself standing_cmp_total (standing_of names a))

abbrev pub doc_of : Scored → DocId
doc_of line = line.doc

module _ (names : List (List ℕ)) (lines sorted : List Scored) (known : All (λ line. line.doc.0 < length names) lines) (names_differ : IsDistinct bytes_eq names)
    (distinct : AreDistinct (map doc_of lines)) (perm : IsPermutation lines sorted)
    (order : (i j : ℕ) (d : Scored) → i < j → j < length sorted
    → is_lt (standing_cmp (standing_of names (get_or sorted i d)) (standing_of names (get_or sorted j d))) ≡ false) where
  differ : AreDistinct (map doc_of sorted)
  differ = distinct_docs (map doc_of lines) (map doc_of sorted) (IsPermutation-map doc_of lines sorted perm) distinct

  known_sorted : All (λ line. line.doc.0 < length names) sorted
  known_sorted = All-permutation (λ line. line.doc.0 < length names) lines sorted perm known

  -- no two lines stand equal
  apart : (i j : ℕ) (d : Scored) → i < j → j < length sorted
      → standing_cmp (standing_of names (get_or sorted i d)) (standing_of names (get_or sorted j d)) ≡ Equal → ⊥
  apart i j d lt l e =
      let one = one_number names (get_or sorted i d).doc.0 (get_or sorted j d).doc.0 names_differ
      (known_sorted i d (omega arith)) (known_sorted j d l) (one_docno _ _ e) in
      differ i j d.doc lt (omega (arith, length-map sorted doc_of))
      (get_or-map doc_of sorted i d d.doc (omega arith) ∙ same_number _ _ one ∙ sym (get_or-map doc_of sorted j d d.doc l))

  strict : (i j : ℕ) (d : Scored) → i < j → j < length sorted → (r : Ordering)
      → standing_cmp (standing_of names (get_or sorted i d)) (standing_of names (get_or sorted j d)) ≡ r
      → is_lt r ≡ false → (is_gt r ≡ true) × (is_gt (ordering_reverse r) ≡ false)
  strict i j d lt l Less e h = absurd (false≢true (sym h))
  strict i j d lt l Equal e h = absurd (apart i j d lt l e)
  strict i j d lt l Greater e h = (refl, refl)

  pairs : AllPairs (Strictly (stands names)) sorted
  pairs i j d lt l =
      let a = standing_of names (get_or sorted i d) in
      let b = standing_of names (get_or sorted j d) in
      let s = strict i j d lt l (standing_cmp a b) refl (order i j d lt l) in
      (s.0, ap is_gt (standing_cmp_total.antisymm b a) ∙ s.1)

  at_rank : (k : ℕ) (d : Scored) → k < length sorted
      → place_in (map doc_of sorted) (get_or sorted k d).doc ≡ Some (rank_in (map (standing_of names) lines) (standing_of names (get_or sorted k d)))
  at_rank k d lt =
      let line = get_or sorted k d in
      ap (place_in (map doc_of sorted)) (sym (get_or-map doc_of sorted k d d.doc lt))
      ∙ place_at (map doc_of sorted) k d.doc differ (omega (arith, length-map sorted doc_of))
      ∙ ap Some (let e : k + 1 ≡ 1 + k = omega arith in e)
      ∙ ap (λ n. Some (1 + n)) (sym (count_by-map (standing_of names) (λ e. stands_before e (standing_of names line)) lines
      ∙ sym (sum_by-IsPermutation (λ e. cond (stands names e line) 1 0) lines sorted perm)
      ∙ count-before (stands names) sorted k d (stands_itself names) pairs lt))

  -- sorted lines list their documents by rank
  pub ranked_by_sort : IsRanking names lines (map doc_of sorted)
  ranked_by_sort = record {
    size = length-map sorted doc_of ∙ length_permutation lines sorted perm;
    listed = IsPermutation-map doc_of lines sorted perm;
    once = differ;
    places = All-permutation (λ line. place_in (map doc_of sorted) line.doc ≡ Some (rank_in (map (standing_of names) lines) (standing_of names line)))
        sorted lines (IsPermutation-sym lines sorted perm) at_rank;
  }

-- what holds of lent lines holds of the lines
pub order_now : (R : Scored → Scored → Bool) (items : List (Bor Scored))
    → ((i j : ℕ) (d : Bor Scored) → i < j → j < length items → R (get_or items i d).now (get_or items j d).now ≡ false)
    → (i j : ℕ) (d : Scored) → i < j → j < length (map (λ line. line.now) items)
    → R (get_or (map (λ line. line.now) items) i d) (get_or (map (λ line. line.now) items) j d) ≡ false
order_now R [] h i j d lt l = absurd (omega arith)
order_now R (x ∷ xs) h i j d lt l =
    let within : j < length (x ∷ xs) = omega (arith, length-map (x ∷ xs) (λ (line : Bor Scored). line.now)) in
    ap (λ a. R a (get_or (map (λ line. line.now) (x ∷ xs)) j d)) (get_or-map (λ line. line.now) (x ∷ xs) i x d (omega arith))
    ∙ ap (λ b. R (get_or (x ∷ xs) i x).now b) (get_or-map (λ line. line.now) (x ∷ xs) j x d within)
    ∙ h i j x lt within

pub IsStrictWeakOrder-standing : (names : List (List ℕ))
    → IsStrictWeakOrder (λ (a b : Bor Scored). is_lt (standing_cmp (standing_of names b.now) (standing_of names a.now)))
IsStrictWeakOrder-standing names = IsStrictWeakOrder-flip _ (ranks_by standing_cmp_total (λ (a : Bor Scored). standing_of names a.now))

pub docs_now : (items : List (Bor Scored)) → map (λ line. line.now.doc) items ≡ map doc_of (map (λ line. line.now) items)
docs_now [] = refl
docs_now (x ∷ xs) = ap (λ docs. x.now.doc ∷ docs) (docs_now xs)
