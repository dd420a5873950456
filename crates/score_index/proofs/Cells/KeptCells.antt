-- The cells that a topic keeps: they are sound, and they are those of its lists.
use Rattle.std.proofs.Common.{◌≡◌, ℕ, zero, suc, ◌*◌, ◌^◌, ◌<◌, ◌≤◌, Bool, true, false, nat_eq, min, List, [], Some, None, get_or, length, map, replicate, take, cond, refl, sym, ap, ◌∙◌, arith}
use Rattle.std.specs.Prelude.{find, if◌then◌else◌}
use Rattle.std.specs.Option.{option_map_or}
use Rattle.std.proofs.Math.Nat.{mul-le-mul}
use Rattle.std.proofs.lemmas.Bool.Decides.{nat_tests}
use Rattle.std.proofs.lemmas.List.{get_or-map, length-replicate}
use Rattle.std.proofs.lemmas.List.Sums.{sum_by-take-le}
use Rattle.depth_pool.specs.declared.runs.RunId.{RunId}
use Rattle.measures.specs.Cells.{IsSound, bpref_den, cell_of, cutoffs}
use Rattle.rank_trees.specs.PlacesOn.{count_on}
use Rattle.score_index.specs.KeptBoards.{IsListKept, IsRoom, kept_cell}
use Rattle.score_index.specs.KeptSums.{AreSums}
use Rattle.score_index.specs.Places.{Places, bpref_from, cell_by, precisions, preferences}
use Rattle.score_index.specs.Scores.{ScoreList, TopicScores, is_of_run}
use Rattle.score_index.specs.declared.sums.Sums.{Sums}
use Rattle.score_index.proofs.Cells.ByPlaces.{by-places, count-on}
use Rattle.score_index.proofs.Cells.PlaceSums.{count-take-le, precisions-small, preferences-small}

-- ---- a cell is sound

count-take-most : (k : ℕ) (on : List Bool) → count_on (take k on) ≤ count_on on
count-take-most k on = sum_by-take-le (λ b. cond b 1 0) on k

bpref-sound : (relevant lower : List Bool) (r n : ℕ) → count_on relevant ≤ r → bpref_from relevant r n (preferences (min r n) 0 relevant lower) ≤ bpref_den r n
bpref-sound relevant lower r n within = by_r (nat_eq r 0) refl
  where
    by_cap : (t : Bool) → nat_eq (min r n) 0 ≡ t → (if t then count_on relevant else preferences (min r n) 0 relevant lower) ≤ (if t then r else r * min r n)
    by_cap true e = within
    by_cap false e =
        let small = preferences-small (min r n) 0 relevant lower in
        let most = mul-le-mul {n₁ = count_on relevant} {m₁ = min r n} {n₂ = r} {m₂ = min r n} within (omega arith) in
        omega (arith, small, most)

    by_r : (t : Bool) → nat_eq r 0 ≡ t → (if t then 0 else (if nat_eq (min r n) 0 then count_on relevant else preferences (min r n) 0 relevant lower))
        ≤ (if t then 1 else (if nat_eq (min r n) 0 then r else r * min r n))
    by_r true e = omega arith
    by_r false e = by_cap (nat_eq (min r n) 0) refl

den-positive : (r n : ℕ) → 0 < bpref_den r n
den-positive r n = by_r (nat_eq r 0) refl
  where
    by_cap : (t : Bool) → nat_eq (min r n) 0 ≡ t → 0 < r → 0 < (if t then r else r * min r n)
    by_cap true e some = some
    by_cap false e some =
        let cap_some : 1 ≤ min r n = grind (arith, nat_tests) in
        let most = mul-le-mul {n₁ = 1} {m₁ = 1} {n₂ = r} {m₂ = min r n} some cap_some in
        omega (arith, most)

    by_r : (t : Bool) → nat_eq r 0 ≡ t → 0 < (if t then 1 else (if nat_eq (min r n) 0 then r else r * min r n))
    by_r true e = omega arith
    by_r false e = let some : 0 < r = grind (arith, nat_tests) in by_cap (nat_eq (min r n) 0) refl some

at-sound : (relevant : List Bool) (i : ℕ) → i < 9 → get_or (map (λ k. count_on (take k relevant)) cutoffs) i 0 ≤ get_or cutoffs i 0
at-sound relevant i within =
    let read = get_or-map (λ k. count_on (take k relevant)) cutoffs i 0 0 within in
    omega (arith, read, count-take-le (get_or cutoffs i 0) relevant)

pub cell-sound : (relevant lower : List Bool) (r n : ℕ) → count_on relevant ≤ r → IsSound (cell_by relevant lower r n)
unfolding cell_by
cell-sound relevant lower r n within = record {
  ap_sum =
      let small = precisions-small 1 0 relevant (omega arith) in
      let most = mul-le-mul {n₁ = count_on relevant} {m₁ = 10 ^ 15} {n₂ = r} {m₂ = 10 ^ 15} within (omega arith) in
      omega (arith, small, most);
  at = at-sound relevant;
  r_prec = omega (arith, count-take-most r relevant, within);
  bpref_den = den-positive r n;
  bpref_num = bpref-sound relevant lower r n within;
}

-- ---- the cell of a run

pub found-cell : (run : RunId) (topic : TopicScores) (list : ScoreList) → find (is_of_run run) topic.lists ≡ Some list
    → IsListKept topic.relevant topic.non_relevant list
    → cell_by list.relevant list.lower list.rel list.low ≡ kept_cell run topic
found-cell run topic list found kept =
    ap (λ r. cell_by list.relevant list.lower r list.low) kept.rel_is ∙ ap (λ n. cell_by list.relevant list.lower topic.relevant n) kept.low_is
    ∙ ap (λ found. cell_by (option_map_or (λ (one : ScoreList). one.relevant) found [])
    (option_map_or (λ (one : ScoreList). one.lower) found []) topic.relevant topic.non_relevant) (sym found)

pub empty-cell : (level : ℕ) (run : RunId) (topic : TopicScores) → find (is_of_run run) topic.lists ≡ None
    → cell_of [] topic.relevant topic.non_relevant level ≡ kept_cell run topic
empty-cell level run topic none =
    by-places [] topic.relevant topic.non_relevant level
    ∙ ap (λ found. cell_by (option_map_or (λ (one : ScoreList). one.relevant) found [])
    (option_map_or (λ (one : ScoreList). one.lower) found []) topic.relevant topic.non_relevant) (sym none)

-- ---- a list of which nothing is judged

count-none : (n : ℕ) → count_on (replicate n false) ≡ 0
count-none zero = refl
count-none (suc n) = omega (arith, count-on false (replicate n false), count-none n)

pub no-sums : (cap : ℕ) (places : Places) (sums : Sums) → IsRoom places → length places.relevant ≤ 1000 → sums.rel_ret ≡ 0
    → sums.at ≡ map (λ k. 0) cutoffs → sums.ap_sum ≡ 0 → sums.preferences ≡ 0 → AreSums cap places sums
no-sums cap places sums room few a b c d = record {
  few = few;
  long = ap length room.no_lower ∙ length-replicate (length places.relevant) false;
  rel_ret = a ∙ sym none;
  at = b ∙ (λ i. map (λ k. none_to k i) cutoffs);
  ap_sum = c ∙ none_weighed;
  preferences = d ∙ none_left;
}
  where
    none : count_on places.relevant ≡ 0
    none = ap count_on room.no_relevant ∙ count-none (length places.relevant)

    none_to : (k : ℕ) → ◌≡◌ {A = ℕ} 0 (count_on (take k places.relevant))
    none_to k = omega (arith, count-take-most k places.relevant, none)

    none_weighed : ◌≡◌ {A = ℕ} 0 (precisions 1 0 places.relevant)
    none_weighed =
        let small = precisions-small 1 0 places.relevant (omega arith) in
        let zero_sum = ap (λ n. n * 10 ^ 15) none in
        omega (arith, small, zero_sum)

    none_left : ◌≡◌ {A = ℕ} 0 (preferences cap 0 places.relevant places.lower)
    none_left =
        let small = preferences-small cap 0 places.relevant places.lower in
        let zero_sum = ap (λ n. n * cap) none in
        omega (arith, small, zero_sum)
