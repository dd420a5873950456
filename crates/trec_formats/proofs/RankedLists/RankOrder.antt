-- Lines of a topic in the order of their ranks.
use Rattle.std.proofs.Common.{Ordering, Less, Equal, Greater, ◌≡◌, ◌≢◌, ℕ, ◌+◌, ◌-◌, ◌<◌, Bool, true, false, cond, List, [], ◌∷◌, length, map, get_or, refl, sym, ap, subst, ◌∙◌, Some, arith, pos}
use Rattle.std.specs.Prelude.{AllPairs, slice_get}
use Rattle.std.specs.Cmp.{IsTotalOrder, IsStrictWeakOrder}
use Rattle.std.specs.Cmp.Lexicographic.{slice_cmp}
use Rattle.std.specs.List.Sorted.{IsPermutation}
use Rattle.std.specs.Ordering.{is_lt, is_gt, nat_cmp, ordering_then, ordering_reverse}
use Rattle.std.proofs.lemmas.Bool.{false≢true}
use Rattle.std.proofs.lemmas.Cmp.{then_total, on_total, nat_list_cmp_total, nat_list_eq_equiv, tied_itself}
use Rattle.std.proofs.lemmas.List.{get_or-map, length-map}
use Rattle.std.proofs.lemmas.List.Sorted.{ranks_by, IsStrictWeakOrder-flip, IsPermutation-map, IsPermutation-sym, All-permutation, length_permutation, sum_by-IsPermutation}
use Rattle.std.proofs.lemmas.Map.Keys.{IsDistinct-IsPermutation}
use Rattle.std.proofs.lemmas.Map.Made.{AllPairs-from_IsDistinct, IsDistinct-from_AllPairs}
use Rattle.std.proofs.lemmas.Option.{slice_get-get_or}
use Rattle.std.proofs.lemmas.Slice.Eq.{bytes_eq-Decides}
use Rattle.std.specs.Str.{bytes_eq}
use denote.Ref.{Bor}
use Rattle.decimal_rank.specs.Decimals.Decimal.{decimal_cmp}
use Rattle.decimal_rank.specs.Rankings.Ranks.{standing_cmp, stands_before, rank_in}
use Rattle.decimal_rank.proofs.Standings.StandingOrder.{Strictly, count-before, one_docno}
use Rattle.decimal_rank.proofs.Lists.{pairs_map, count_by-map}
use Rattle.trec_formats.specs.declared.runs.packed_runs.PackedLine.{PackedLine}
use Rattle.trec_formats.specs.declared.runs.RunLine.{RunLine}
use Rattle.trec_formats.specs.RunFormat.Groups.{AreByRank, DocsDiffer}
use Rattle.trec_formats.specs.RunFormat.Lists.{AreRanked, standing}
use Rattle.trec_formats.specs.RunFormat.PackedRuns.{text_in, line_in, lines_in, lines_behind}

standing_total : IsTotalOrder decimal_cmp → IsTotalOrder standing_cmp
unfolding standing_cmp
standing_total total = then_total (on_total (λ d. d.score) total) (on_total (λ d. d.docno) nat_list_cmp_total)

abbrev doc_of : RunLine → List ℕ
doc_of line = line.doc

-- the docnos of lines that differ in them, in any order
listed_once : (lines : List RunLine) (docs : List (List ℕ)) → DocsDiffer lines → IsPermutation (map doc_of lines) docs → AllPairs (λ a b. a ≢ b) docs
listed_once lines docs differ listed =
    let before : AllPairs (λ a b. a ≢ b) (map doc_of lines) = λ i j d below within same.
    let none : RunLine = record { line = 0; topic = []; doc = d; score = record { negative = false; digits = 0; exponent = pos 0 } } in
    let here : j < length lines = rw length-map at within in
    differ i j none below here (sym (get_or-map doc_of lines i none d (omega (arith, below, here))) ∙ same ∙ get_or-map doc_of lines j none d here) in
    AllPairs-from_IsDistinct bytes_eq-Decides docs
    (IsDistinct-IsPermutation bytes_eq nat_list_eq_equiv.symm (map doc_of lines) docs listed
    (IsDistinct-from_AllPairs bytes_eq-Decides (map doc_of lines) before))

abbrev stands : RunLine → RunLine → Bool
stands a b = stands_before (standing a) (standing b)

module _ (lines order : List RunLine) (total : IsTotalOrder decimal_cmp) (differ : DocsDiffer lines) (w : AreByRank lines order) where
  once : AllPairs (λ a b. a ≢ b) (map doc_of order)
  once = listed_once lines (map doc_of order) differ (IsPermutation-map doc_of lines order w.same)

  -- no two lines stand equal
  apart : (i j : ℕ) (d : RunLine) → i < j → j < length order → standing_cmp (standing (get_or order i d)) (standing (get_or order j d)) ≡ Equal → ⊥
  apart i j d less within e =
      once i j d.doc less (omega (arith, length-map order doc_of))
      (get_or-map doc_of order i d d.doc (omega (arith, less, within)) ∙ one_docno _ _ e ∙ sym (get_or-map doc_of order j d d.doc within))

  strict : (i j : ℕ) (d : RunLine) → i < j → j < length order → (r : Ordering) → standing_cmp (standing (get_or order i d)) (standing (get_or order j d)) ≡ r
      → is_lt r ≡ false → (is_gt r ≡ true) × (is_gt (ordering_reverse r) ≡ false)
  strict i j d less within Less e h = absurd (false≢true (sym h))
  strict i j d less within Equal e h = absurd (apart i j d less within e)
  strict i j d less within Greater e h = (refl, refl)

  pairs : AllPairs (Strictly stands) order
  pairs i j d less within =
      let a = standing (get_or order i d) in
      let b = standing (get_or order j d) in
      let s = strict i j d less within (standing_cmp a b) refl (w.ranked i j d less within) in
      (s.0, ap is_gt ((standing_total total).antisymm b a) ∙ s.1)

  stands_itself : (a : RunLine) → stands a a ≡ false
  stands_itself a = ap is_gt (tied_itself (standing_total total) (standing a))

  rank_at : (k : ℕ) (d : RunLine) → k < length order → rank_in (map standing lines) (standing (get_or order k d)) ≡ 1 + k
  rank_at k d within =
      let line = get_or order k d in
      ap (λ n. 1 + n) (count_by-map standing (λ e. stands_before e (standing line)) lines
      ∙ sym (sum_by-IsPermutation (λ e. cond (stands e line) 1 0) lines order w.same)
      ∙ count-before stands order k d stands_itself pairs within)

  at_rank : (k : ℕ) (d : RunLine) → k < length order
      → slice_get (map doc_of order) (rank_in (map standing lines) (standing (get_or order k d)) - 1) ≡ Some (get_or order k d).doc
  at_rank k d within =
      let place : rank_in (map standing lines) (standing (get_or order k d)) - 1 ≡ k = omega (arith, rank_at k d within) in
      ap (slice_get (map doc_of order)) place
      ∙ slice_get-get_or (map doc_of order) k d.doc (omega (arith, within, length-map order doc_of))
      ∙ ap (λ doc. Some doc) (get_or-map doc_of order k d d.doc within)

  -- lines in the order of their ranks list their documents by rank
  pub are_ranked : AreRanked lines (map doc_of order)
  are_ranked = record {
    size = length-map order doc_of ∙ length_permutation lines order w.same;
    once = once;
    places = All-permutation (λ line. slice_get (map doc_of order) (rank_in (map standing lines) (standing line) - 1) ≡ Some line.doc) order lines
        (IsPermutation-sym lines order w.same) at_rank;
  }

module _ (bytes : List ℕ) where
  abbrev line_at : Bor PackedLine → RunLine
  line_at line = line_in bytes line.now

  -- lent lines show the lines
  pub lent_shown : (items : List (Bor PackedLine)) (lines : List PackedLine) → map (λ (line : Bor PackedLine). line.now) items ≡ lines
      → lines_behind bytes items ≡ lines_in bytes lines
  lent_shown [] lines is = ap (lines_in bytes) is
  lent_shown (x ∷ xs) lines is = ap (λ rest. line_at x ∷ rest) (lent_shown xs (map (λ line. line.now) xs) refl) ∙ ap (lines_in bytes) is

  -- what holds of lent lines holds of the lines
  pub order_shown : (R : RunLine → RunLine → Bool) (items : List (Bor PackedLine))
      → ((i j : ℕ) (d : Bor PackedLine) → i < j → j < length items → R (line_at (get_or items i d)) (line_at (get_or items j d)) ≡ false)
      → AllPairs (λ a b. R a b ≡ false) (lines_behind bytes items)
  order_shown R items h = pairs_map line_at (λ a b. R a b ≡ false) items h

  pub rank_order : IsTotalOrder decimal_cmp → IsStrictWeakOrder (λ (a b : Bor PackedLine). is_lt (standing_cmp (standing (line_at b)) (standing (line_at a))))
  rank_order total = IsStrictWeakOrder-flip _ (ranks_by (standing_total total) (λ (a : Bor PackedLine). standing (line_at a)))

  pub docs_shown : (items : List (Bor PackedLine))
      → map (λ (line : RunLine). line.doc) (lines_behind bytes items) ≡ map (λ line. text_in bytes line.now.doc) items
  docs_shown [] = refl
  docs_shown (x ∷ xs) = ap (λ docs. text_in bytes x.now.doc ∷ docs) (docs_shown xs)

  pub ranked_docs : (lines : List RunLine) (items given : List (Bor PackedLine)) (docs : List (List ℕ)) → IsTotalOrder decimal_cmp → DocsDiffer lines
      → AreByRank lines (lines_behind bytes items) → given ≡ items → docs ≡ map (λ (line : RunLine). line.doc) (lines_behind bytes given) → AreRanked lines docs
  ranked_docs lines items given docs total differ w same docs_are =
      subst (AreRanked lines) (sym (docs_are ∙ ap (λ items. map doc_of (lines_behind bytes items)) same))
      (are_ranked lines (lines_behind bytes items) total differ w)

pub equal_scores : (a b : RunLine) (r : Ordering) → decimal_cmp a.score b.score ≡ Equal
    → r ≡ slice_cmp nat_cmp a.doc b.doc → r ≡ standing_cmp (standing a) (standing b)
unfolding standing_cmp
equal_scores a b r scores docs = docs ∙ sym (ap (λ o. ordering_then o (slice_cmp nat_cmp a.doc b.doc)) scores)

first_unequal : (r s : Ordering) → (r ≢ Equal) → ordering_then r s ≡ r
first_unequal Less s other = refl
first_unequal Equal s other = absurd (other refl)
first_unequal Greater s other = refl

pub unequal_scores : (a b : RunLine) (r : Ordering) → r ≡ decimal_cmp a.score b.score → (r ≢ Equal) → r ≡ standing_cmp (standing a) (standing b)
unfolding standing_cmp
unequal_scores a b r scores other =
    sym (first_unequal r (slice_cmp nat_cmp a.doc b.doc) other) ∙ ap (λ o. ordering_then o (slice_cmp nat_cmp a.doc b.doc)) scores
