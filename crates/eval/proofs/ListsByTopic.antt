-- The list of a topic among ranked lists.
use Rattle.std.proofs.Common.{Ordering, Less, Equal, Greater, ◌≡◌, ◌≢◌, ◌<◌, ◌≤◌, ◌+◌, ℕ, zero, suc, Bool, true, false, List, [], ◌∷◌, length, get_or, refl, sym, ap, subst, ◌∙◌, arith}
use Rattle.std.specs.Prelude.{All, AllPairs, bytes_eq}
use Rattle.std.specs.Cmp.Lexicographic.{slice_cmp}
use Rattle.std.specs.List.Sorted.{IsNonDecreasingBy, IsPartitionPoint}
use Rattle.std.specs.Ordering.{nat_cmp, is_lt, ordering_index, ordering_reverse, MatchOrdering}
use Rattle.std.proofs.lemmas.Bool.{false_from_ne_true}
use Rattle.std.proofs.lemmas.Cmp.{nat_list_cmp_total, ranked, tied_itself}
use Rattle.std.proofs.lemmas.List.Sorted.{searchable_from_sorted}
use Rattle.std.proofs.lemmas.Slice.Eq.{bytes_eq-Decides}
use Rattle.decimal_rank.proofs.TruthValues.{never_below_itself}
use Rattle.trec_formats.specs.declared.runs.lists.TopicList.{TopicList}
use Rattle.eval.specs.Evaluations.{run_docs_on}

abbrev pub Ascending : List TopicList → Type 0
Ascending lists = AllPairs (λ a b. is_lt (slice_cmp nat_cmp a.topic b.topic) ≡ true) lists

-- the list of the topic at a place is the topic's
pub listed_at : (lists : List TopicList) (topic : List ℕ) (i : ℕ) (d : TopicList) → Ascending lists → i < length lists
    → (get_or lists i d).topic ≡ topic → run_docs_on lists topic ≡ (get_or lists i d).docs
listed_at [] topic i d ascending within same = absurd (omega arith)
listed_at (list ∷ lists) topic zero d ascending within same =
    let here : bytes_eq list.topic topic ≡ true = (bytes_eq-Decides _ _).1 same in
    rw here refl
listed_at (list ∷ lists) topic (suc i) d ascending within same =
    let apart : bytes_eq list.topic topic ≡ false = false_from_ne_true _ (λ e.
    never_below_itself topic (subst (λ t. is_lt (slice_cmp nat_cmp topic t) ≡ true) same
    (subst (λ t. is_lt (slice_cmp nat_cmp t (get_or lists i d).topic) ≡ true) ((bytes_eq-Decides _ _).0 e) (ascending 0 (suc i) d (omega arith) within)))) in
    rw apart (listed_at lists topic i d (λ i j d less w. ascending (suc i) (suc j) d (omega arith) (omega arith)) (omega arith) same)

-- no list has the topic
pub unlisted : (lists : List TopicList) (topic : List ℕ) → All (λ list. list.topic ≢ topic) lists → run_docs_on lists topic ≡ []
unlisted [] topic all = refl
unlisted (list ∷ lists) topic all =
    let apart : bytes_eq list.topic topic ≡ false = false_from_ne_true _ (λ e. all 0 list (omega arith) ((bytes_eq-Decides _ _).0 e)) in
    rw apart (unlisted lists topic (λ k d within. all (suc k) d (omega arith)))

not_lower : (r : Ordering) → is_lt r ≡ true → is_lt (ordering_reverse r) ≡ false
not_lower Less e = refl
not_lower Equal e = cc e
not_lower Greater e = cc e

pub lists_rise : (lists : List TopicList) (topic : List ℕ) → Ascending lists
    → IsNonDecreasingBy (λ list. ordering_index (slice_cmp nat_cmp list.topic topic)) lists
lists_rise lists topic ascending =
    searchable_from_sorted nat_list_cmp_total (λ (list : TopicList). list.topic) lists topic
    (λ k d a b. ap is_lt (nat_list_cmp_total.antisymm (get_or lists (k + 1) d).topic (get_or lists k d).topic)
    ∙ not_lower _ (ascending k (k + 1) d (omega arith) b))

differs : (r : Ordering) (s t : List ℕ) → slice_cmp nat_cmp s t ≡ r → r ≢ Equal → s ≢ t
differs r s t is apart same = apart (sym is ∙ ap (λ x. slice_cmp nat_cmp x t) same ∙ tied_itself nat_list_cmp_total t)

-- where lists below the topic are followed by lists above it
pub between_lists : (lists : List TopicList) (topic : List ℕ) (i : ℕ) → i ≤ length lists
    → IsPartitionPoint (λ list. slice_cmp nat_cmp list.topic topic ≡ Less) (λ list. slice_cmp nat_cmp list.topic topic ≡ Greater) lists i
    → All (λ list. list.topic ≢ topic) lists
between_lists lists topic i le w k d within = by (nat_cmp k i) (ranked k i (nat_cmp k i) refl)
  where
    by : (r : Ordering) → MatchOrdering r (k < i) (k ≡ i) (i < k) → (get_or lists k d).topic ≢ topic
    by Less low = differs Less _ topic (w.0 k d (omega arith) low) (λ e. cc e)
    by Equal at = differs Greater _ topic (w.1 k d (omega (arith, at)) within) (λ e. cc e)
    by Greater high = differs Greater _ topic (w.1 k d (omega (arith, high)) within) (λ e. cc e)

-- what holds of each list's documents and of none
pub docs_on-all : (P : List (List ℕ) → Type 0) → P [] → (lists : List TopicList) (topic : List ℕ)
    → All (λ list. P list.docs) lists → P (run_docs_on lists topic)
docs_on-all P none [] topic all = none
docs_on-all P none (list ∷ lists) topic all = by (bytes_eq list.topic topic) refl (docs_on-all P none lists topic (λ k d within. all (suc k) d (omega arith)))
  where
    by : (t : Bool) → bytes_eq list.topic topic ≡ t → P (run_docs_on lists topic) → P (run_docs_on (list ∷ lists) topic)
    by true is rest = rw is (all 0 list (omega arith))
    by false is rest = rw is rest
