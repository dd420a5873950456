-- Lists by run: one more among them, and the one that is found.
use Rattle.std.proofs.Common.{Ordering, Less, Equal, Greater, ◌≡◌, ◌≢◌, ◌<◌, ◌≤◌, ◌+◌, ℕ, suc, zero, Bool, true, false, cond, eqb, List, [], ◌∷◌, None, Some, get_or, length, nat_lt, refl, sym, ap, ◌∙◌, arith, inl, inr}
use Rattle.std.specs.Prelude.{All, find, insert}
use Rattle.std.specs.List.Sorted.{IsNonDecreasingBy, IsPartitionedBy, IsPartitionPoint}
use Rattle.std.specs.Option.{option_map}
use Rattle.std.specs.Ordering.{nat_cmp, ordering_index}
use Rattle.std.proofs.lemmas.Bool.{eq-eqb, eqb-false, eqb-true, ltb-true}
use Rattle.std.proofs.lemmas.Bool.Decides.{eqb_tells, nat_tests}
use Rattle.std.proofs.lemmas.Cmp.{nat_cmp_total, tied_itself}
use Rattle.std.proofs.lemmas.List.Sorted.{searchable_from_sorted}
use Rattle.std.proofs.lemmas.List.Elements.{All-cons, All-head, All-tail}
use Rattle.decimal_rank.proofs.TruthValues.{above_is_not_less}
use Rattle.depth_pool.specs.declared.runs.RunId.{RunId}
use Rattle.score_index.specs.KeptBoards.{AreByRun, list_placed}
use Rattle.score_index.specs.Scores.{ScoreList, is_of_run}

-- where a run has no list, the lists are those of other runs
pub others_have : (run : RunId) (lists : List ScoreList) → option_map (λ list. list.docs) (find (is_of_run run) lists) ≡ None
    → All (λ list. list.run.0 ≢ run.0) lists
others_have run [] none = λ k d within. absurd (omega (arith, within))
others_have run (list ∷ lists) none = step (is_of_run run list) refl none (others_have run lists)
  where
    step : (t : Bool) → is_of_run run list ≡ t → option_map (λ (one : ScoreList). one.docs) (cond t (Some list) (find (is_of_run run) lists)) ≡ None
        → (option_map (λ (one : ScoreList). one.docs) (find (is_of_run run) lists) ≡ None → All (λ list. list.run.0 ≢ run.0) lists)
        → All (λ list. list.run.0 ≢ run.0) (list ∷ lists)
    step true is some rest = cc some
    step false is none rest = All-cons (λ list. list.run.0 ≢ run.0) list lists (eqb-false list.run.0 run.0 is) (rest none)

-- ---- one more list

module _ (P : ScoreList → Type 0) (list : ScoreList) (here : P list) where
  pub placed-every : (lists : List ScoreList) → All P lists → All P (list_placed list lists)
  placed-every [] all = All-cons P list [] here all
  placed-every (one ∷ lists) all = step (nat_lt one.run.0 list.run.0) (placed-every lists (All-tail P one lists all))
    where
      step : (t : Bool) → All P (list_placed list lists) → All P (cond t (one ∷ list_placed list lists) (list ∷ one ∷ lists))
      step true rest = All-cons P one (list_placed list lists) (All-head P one lists all) rest
      step false rest = All-cons P list (one ∷ lists) here all

pub placed-all : (P : ScoreList → Type 0) (list : ScoreList) (lists : List ScoreList) → All P lists → P list → All P (list_placed list lists)
placed-all P list lists all here = placed-every P list here lists all

pairs-cons : (one : ScoreList) (lists : List ScoreList) → All (λ other. one.run.0 < other.run.0) lists → AreByRun lists → AreByRun (one ∷ lists)
pairs-cons one lists first rest zero zero d less within = absurd (omega (arith, less))
pairs-cons one lists first rest zero (suc j) d less within = first j d (omega (arith, within))
pairs-cons one lists first rest (suc i) zero d less within = absurd (omega (arith, less))
pairs-cons one lists first rest (suc i) (suc j) d less within = rest i j d (omega (arith, less)) (omega (arith, within))

behind : (one : ScoreList) (lists : List ScoreList) → AreByRun (one ∷ lists) → All (λ other. one.run.0 < other.run.0) lists
behind one lists ordered = λ k d within. ordered zero (suc k) d (omega arith) (omega (arith, within))

later : (one : ScoreList) (lists : List ScoreList) → AreByRun (one ∷ lists) → AreByRun lists
later one lists ordered = λ i j d less within. ordered (suc i) (suc j) d (omega (arith, less)) (omega (arith, within))

not_less : (m n : ℕ) → nat_lt m n ≡ false → m ≢ n → n < m
not_less m n is apart = let least : n ≤ m = grind (arith, nat_tests, is) in omega (arith, least, apart)

pub placed-ordered : (list : ScoreList) (lists : List ScoreList) → AreByRun lists
    → All (λ one. one.run.0 ≢ list.run.0) lists → AreByRun (list_placed list lists)
placed-ordered list [] ordered others = pairs-cons list [] (λ k d within. absurd (omega (arith, within))) ordered
placed-ordered list (one ∷ lists) ordered others =
    step (nat_lt one.run.0 list.run.0) refl (placed-ordered list lists (later one lists ordered) (All-tail (λ one. one.run.0 ≢ list.run.0) one lists others))
  where
    step : (t : Bool) → nat_lt one.run.0 list.run.0 ≡ t → AreByRun (list_placed list lists)
        → AreByRun (cond t (one ∷ list_placed list lists) (list ∷ one ∷ lists))
    step true is rest =
        pairs-cons one (list_placed list lists)
        (placed-all (λ other. one.run.0 < other.run.0) list lists (behind one lists ordered) (ltb-true one.run.0 list.run.0 is)) rest
    step false is rest =
        let less : list.run.0 < one.run.0 = not_less one.run.0 list.run.0 is (All-head (λ one. one.run.0 ≢ list.run.0) one lists others) in
        pairs-cons list (one ∷ lists)
        (All-cons (λ other. list.run.0 < other.run.0) one lists less
        (λ k d within. let next = behind one lists ordered k d within in omega (arith, less, next))) ordered

pub placed-found : (other : RunId) (list : ScoreList) (lists : List ScoreList) → All (λ one. one.run.0 ≢ list.run.0) lists
    → find (is_of_run other) (list_placed list lists) ≡ cond (eqb list.run.0 other.0) (Some list) (find (is_of_run other) lists)
placed-found other list [] others = refl
placed-found other list (one ∷ lists) others =
    step (nat_lt one.run.0 list.run.0) (placed-found other list lists (All-tail (λ one. one.run.0 ≢ list.run.0) one lists others))
  where
    either : (s t : Bool) → is_of_run other one ≡ s → eqb list.run.0 other.0 ≡ t
        → cond s (Some one) (cond t (Some list) (find (is_of_run other) lists)) ≡ cond t (Some list) (cond s (Some one) (find (is_of_run other) lists))
    either true true here there =
        absurd (All-head (λ one. one.run.0 ≢ list.run.0) one lists others (eqb-true one.run.0 other.0 here ∙ sym (eqb-true list.run.0 other.0 there)))
    either true false here there = refl
    either false true here there = refl
    either false false here there = refl

    step : (t : Bool) → find (is_of_run other) (list_placed list lists) ≡ cond (eqb list.run.0 other.0) (Some list) (find (is_of_run other) lists)
        → find (is_of_run other) (cond t (one ∷ list_placed list lists) (list ∷ one ∷ lists))
        ≡ cond (eqb list.run.0 other.0) (Some list) (find (is_of_run other) (one ∷ lists))
    step true rest = ap (λ found. cond (is_of_run other one) (Some one) found) rest ∙ either (is_of_run other one) (eqb list.run.0 other.0) refl refl
    step false rest = refl

-- where the lists below its run end
pub placed-is : (list : ScoreList) (lists : List ScoreList) (place : ℕ) → place ≤ length lists
    → IsPartitionPoint (λ one. nat_lt one.run.0 list.run.0 ≡ true) (λ one. nat_lt one.run.0 list.run.0 ≡ false) lists place
    → insert lists place list ≡ list_placed list lists
placed-is list [] zero within parts = refl
placed-is list [] (suc place) within parts = absurd (omega (arith, within))
placed-is list (one ∷ lists) zero within parts =
    let first : nat_lt one.run.0 list.run.0 ≡ false = parts.1 zero one (omega arith) (omega arith) in
    sym (ap (λ t. cond t (one ∷ list_placed list lists) (list ∷ one ∷ lists)) first)
placed-is list (one ∷ lists) (suc place) within parts =
    let first : nat_lt one.run.0 list.run.0 ≡ true = parts.0 zero one (omega arith) (omega arith) in
    let rest = placed-is list lists place (omega (arith, within)) (
      (λ k d low high. parts.0 (suc k) d (omega (arith, low)) (omega (arith, high))),
      (λ k d low high. parts.1 (suc k) d (omega (arith, low)) (omega (arith, high))),
    ) in
    ap (λ xs. one ∷ xs) rest ∙ sym (ap (λ t. cond t (one ∷ list_placed list lists) (list ∷ one ∷ lists)) first)

less-is : (m n : ℕ) → m < n → nat_lt m n ≡ true
less-is m n less = grind (arith, nat_tests, less)

pub parted : (lists : List ScoreList) (run : ℕ) → AreByRun lists → IsPartitionedBy (λ list. nat_lt list.run.0 run) lists
parted lists run ordered i j d most within is = elim (eqb_tells i j) [
  | inl h ↦ ap (λ k. nat_lt (get_or lists k d).run.0 run) h.1 ∙ is
  | inr h ↦ less-is _ run (earlier (omega (arith, most, h.1)))
]
  where
    earlier : i < j → (get_or lists i d).run.0 < run
    earlier less =
        let lower = ordered i j d less within in
        let high = ltb-true (get_or lists j d).run.0 run is in
        omega (arith, lower, high)

-- ---- the list of a run

pub found-at : (lists : List ScoreList) (run : RunId) (place : ℕ) (d : ScoreList) → AreByRun lists → place < length lists
    → (get_or lists place d).run.0 ≡ run.0 → find (is_of_run run) lists ≡ Some (get_or lists place d)
found-at [] run place d ordered within is = absurd (omega (arith, within))
found-at (one ∷ lists) run zero d ordered within is = ap (λ t. cond t (Some one) (find (is_of_run run) lists)) (eq-eqb one.run.0 run.0 is)
found-at (one ∷ lists) run (suc place) d ordered within is =
    let less = ordered zero (suc place) d (omega arith) within in
    let apart : is_of_run run one ≡ false = grind (arith, nat_tests, less, is) in
    ap (λ t. cond t (Some one) (find (is_of_run run) lists)) apart ∙ found-at lists run place d (later one lists ordered) (omega (arith, within)) is

pub found-none : (lists : List ScoreList) (run : RunId) → All (λ list. list.run.0 ≢ run.0) lists → find (is_of_run run) lists ≡ None
found-none [] run others = refl
found-none (one ∷ lists) run others =
    let first = All-head (λ list. list.run.0 ≢ run.0) one lists others in
    let apart : is_of_run run one ≡ false = grind (arith, nat_tests, first) in
    ap (λ t. cond t (Some one) (find (is_of_run run) lists)) apart ∙ found-none lists run (All-tail (λ list. list.run.0 ≢ run.0) one lists others)

-- where lists below the run are followed by lists above it
pub others-around : (lists : List ScoreList) (run : RunId) (place : ℕ)
    → IsPartitionPoint (λ list. nat_cmp list.run.0 run.0 ≡ Less) (λ list. nat_cmp list.run.0 run.0 ≡ Greater) lists place
    → All (λ list. list.run.0 ≢ run.0) lists
others-around lists run place parts k d within = step (nat_lt k place) refl
  where
    apart : (r : Ordering) → nat_cmp (get_or lists k d).run.0 run.0 ≡ r → r ≢ Equal → (get_or lists k d).run.0 ≢ run.0
    apart r is other same = other (sym is ∙ ap (λ n. nat_cmp n run.0) same ∙ tied_itself nat_cmp_total run.0)

    step : (t : Bool) → nat_lt k place ≡ t → (get_or lists k d).run.0 ≢ run.0
    step true is = apart Less (parts.0 k d (omega arith) (ltb-true k place is)) (λ e. cc e)
    step false is = apart Greater (parts.1 k d (grind (arith, nat_tests, is)) within) (λ e. cc e)

pub rising : (lists : List ScoreList) (run : ℕ) → AreByRun lists → IsNonDecreasingBy (λ list. ordering_index (nat_cmp list.run.0 run)) lists
rising lists run ordered =
    searchable_from_sorted nat_cmp_total (λ (list : ScoreList). list.run.0) lists run
    (λ k d a b. let less = ordered k (k + 1) d (omega arith) b in above_is_not_less (get_or lists k d).run.0 (get_or lists (k + 1) d).run.0 less)
