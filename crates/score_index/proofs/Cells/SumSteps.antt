-- The sums of a list, before and after one place.
use Rattle.std.proofs.Common.{◌≡◌, ℕ, suc, ◌+◌, ◌-◌, ◌*◌, ◌^◌, ◌<◌, ◌≤◌, ◌&&◌, Bool, true, false, nat_le, not, List, [], ◌∷◌, length, drop, take, map, set, get_or, sym, ap, ◌∙◌, arith, subst, zero-add}
use Rattle.std.specs.Prelude.{if◌then◌else◌}
use Rattle.std.proofs.Math.Nat.{mul-le-mul, div-le_self}
use Rattle.std.proofs.lemmas.List.{drop-set-lt, get_or-map, get_or-set_same, length-drop, length-set, length-take, set-get_or, set-set, take-set, take_all}
use Rattle.std.proofs.lemmas.List.Sums.{count_by-le-length, count_by_more_yes}
use Rattle.std.proofs.lemmas.Option.{get_or_from_slice_get, slice_get_within}
use Rattle.measures.specs.Cells.{cutoffs, weight}
use Rattle.qrels_view.specs.Grades.{as_number}
use Rattle.rank_trees.specs.PlacesOn.{IsSelected, count_on, count_on_below, weights_above, weights_from}
use Rattle.score_index.specs.Places.{cap_reached_places, first_from, precision_gain, precisions, preferences}
use Rattle.score_index.proofs.Cells.PlaceSums.{count-set, count-take-set, first-none, first-selected, reached-all, reached-to, precisions-set, precisions-small, preferences-other, preferences-set, preferences-small, reached-past}

pub count-few : (n : ℕ) (on : List Bool) → count_on (take n on) ≤ length on
count-few n on = omega (arith, count_by-le-length (λ b. b) (take n on), length-take n on)

weight-small : (place : ℕ) → weight place ≤ 10 ^ 15
weight-small place = div-le_self (10 ^ 15) place

weights-small : (place : ℕ) (on : List Bool) → weights_from place on ≤ length on * 10 ^ 15
weights-small place [] = omega arith
weights-small place (true ∷ on) = omega (arith, weight-small place, weights-small (place + 1) on)
weights-small place (false ∷ on) = let rest = weights-small (place + 1) on in le_more (weights_from (place + 1) on) (length on) rest
  where
    le_more : (w n : ℕ) → w ≤ n * 10 ^ 15 → w ≤ suc n * 10 ^ 15
    le_more w n h = omega (arith, h)

pub gain-fits : (on : List Bool) (place : ℕ) → length on ≤ 1000 → (count_on_below on place + 1) * weight place + weights_above on place ≤ 2001 * 10 ^ 15
gain-fits on place few =
    let most = mul-le-mul {n₁ = count_on_below on place + 1} {m₁ = weight place} {n₂ = 1001} {m₂ = 10 ^ 15}
    (omega (arith, few, count-few (place - 1) on)) (weight-small place) in
    let above = weights-small (place + 1) (drop place on) in
    let short = length-drop place on in
    let long = mul-le-mul {n₁ = length (drop place on)} {m₁ = 10 ^ 15} {n₂ = 1000} {m₂ = 10 ^ 15} (omega (arith, few, short)) (omega arith) in
    omega (arith, most, above, long)

pub gain-is : (on : List Bool) (place : ℕ) → 1 ≤ place
    → (count_on_below on place + 1) * weight place + weights_above on place ≡ precision_gain 1 0 on (place - 1)
gain-is on place some =
    let e : place ≡ 1 + (place - 1) = omega (arith, some) in
    let n : place ≡ suc (place - 1) = omega (arith, some) in
    ap (λ k. (count_on_below on place + 1) * weight k + weights_from (k + 1) (drop place on)) e
    ∙ ap (λ k. (count_on_below on place + 1) * weight (1 + (place - 1)) + weights_from (1 + (place - 1) + 1) (drop k on)) n
    ∙ ap (λ c. (c + 1) * weight (1 + (place - 1)) + weights_from (1 + (place - 1) + 1) (drop (suc (place - 1)) on)) (sym (zero-add (count_on_below on place)))

pub at-few : (on : List Bool) (at : List ℕ) → length on ≤ 1000 → at ≡ map (λ k. count_on (take k on)) cutoffs → (i : ℕ) → i < 9 → get_or at i 0 ≤ 1000
at-few on at few are i within =
    let read = ap (λ xs. get_or xs i 0) are ∙ get_or-map (λ k. count_on (take k on)) cutoffs i 0 0 within in
    omega (arith, read, few, count-few (get_or cutoffs i 0) on)

module _ (relevant : List Bool) (place : ℕ) (some : 1 ≤ place) (within : place ≤ length relevant) (off : get_or relevant (place - 1) false ≡ false) where
  inside : place - 1 < length relevant
  inside = omega (arith, some, within)

  pub one-more : count_on (set relevant (place - 1) true) ≡ count_on relevant + 1
  one-more = count-set relevant (place - 1) inside off

  at_cutoff : (k : ℕ) → count_on (take k relevant) + as_number (nat_le place k) ≡ count_on (take k (set relevant (place - 1) true))
  at_cutoff k =
      let n : place ≡ suc (place - 1) = omega (arith, some) in
      ap (λ p. count_on (take k relevant) + as_number (nat_le p k)) n ∙ sym (count-take-set k relevant (place - 1) inside off)

  pub at-more : map (λ k. count_on (take k relevant) + as_number (nat_le place k)) cutoffs
      ≡ map (λ k. count_on (take k (set relevant (place - 1) true))) cutoffs
  at-more = λ i. map (λ k. at_cutoff k i) cutoffs

  pub stays-off : set relevant (place - 1) false ≡ relevant
  stays-off = ap (set relevant (place - 1)) (sym off) ∙ set-get_or relevant (place - 1) false

  -- the counts where the place is on, or off
  pub at-with : (on : Bool) → map (λ k. count_on (take k relevant) + as_number (on && nat_le place k)) cutoffs
      ≡ map (λ k. count_on (take k (set relevant (place - 1) on))) cutoffs
  at-with true = at-more
  at-with false = λ i. map (λ k. same k i) cutoffs
    where
      same : (k : ℕ) → count_on (take k relevant) + 0 ≡ count_on (take k (set relevant (place - 1) false))
      same k = let none : count_on (take k relevant) + 0 ≡ count_on (take k relevant) = omega arith in none ∙ ap (λ r. count_on (take k r)) (sym stays-off)

  pub gain-sum : precisions 1 0 (set relevant (place - 1) true) ≡ precisions 1 0 relevant + precision_gain 1 0 relevant (place - 1)
  gain-sum = precisions-set 1 0 relevant (place - 1) inside off

  pub gain-small : length relevant ≤ 1000 → precisions 1 0 relevant + precision_gain 1 0 relevant (place - 1) ≤ 1000 * 10 ^ 15
  gain-small few =
      let small = precisions-small 1 0 (set relevant (place - 1) true) (omega arith) in
      let long = length-set relevant (place - 1) true in
      let most = mul-le-mul {n₁ = count_on (set relevant (place - 1) true)} {m₁ = 10 ^ 15} {n₂ = 1000} {m₂ = 10 ^ 15}
      (omega (arith, few, long, count_by-le-length (λ b. b) (set relevant (place - 1) true))) (omega arith) in
      omega (arith, gain-sum, small, most)

  pub left-sum : (cap : ℕ) (lower : List Bool) → length lower ≡ length relevant
      → preferences cap 0 (set relevant (place - 1) true) lower ≡ preferences cap 0 relevant lower + (cap - count_on (take (place - 1) lower))
  left-sum cap lower long =
      preferences-set cap 0 relevant lower (place - 1) long inside off
      ∙ ap (λ n. preferences cap 0 relevant lower + (cap - n)) (zero-add (count_on (take (place - 1) lower)))

pub preferences-fit : (cap : ℕ) (relevant lower : List Bool) → length relevant ≤ 1000 → cap ≤ 268435456 → preferences cap 0 relevant lower ≤ 1000 * 268435456
preferences-fit cap relevant lower few least =
    let small = preferences-small cap 0 relevant lower in
    let most = mul-le-mul {n₁ = count_on relevant} {m₁ = cap} {n₂ = 1000} {m₂ = 268435456} (omega (arith, few, count_by-le-length (λ b. b) relevant)) least in
    omega (arith, small, most)

-- a count that moves with a place
pub moved-one : (on here : Bool) (n count result : ℕ) → result ≡ (if on then count + as_number here else count - as_number here)
    → count ≡ n + as_number (not on && here) → result ≡ n + as_number (on && here)
moved-one true here n count result is was = omega (arith, is, was)
moved-one false here n count result is was = omega (arith, is, was)

-- a place that is judged lower, and was not
pub lower-sum : (cap : ℕ) (relevant lower : List Bool) (place : ℕ) → 1 ≤ place → place ≤ length relevant
    → length lower ≡ length relevant → get_or lower (place - 1) false ≡ true
    → preferences cap 0 relevant (set lower (place - 1) false)
    ≡ preferences cap 0 relevant lower + (cap_reached_places cap 0 relevant lower - count_on (take place relevant))
lower-sum cap relevant lower place some within long on =
    preferences-other cap 0 relevant (set lower (place - 1) false) (place - 1) was-long (omega (arith, inside, length-set lower (place - 1) false)) was-off
    ∙ ap (λ xs. preferences cap 0 relevant xs + cap_reached_places cap (0 + count_on (take (place - 1) (set lower (place - 1) false)) + 1)
    (drop (suc (place - 1)) relevant) (drop (suc (place - 1)) (set lower (place - 1) false))) back
    ∙ ap (λ n. preferences cap 0 relevant lower
    + cap_reached_places cap n (drop (suc (place - 1)) relevant) (drop (suc (place - 1)) (set lower (place - 1) false))) counted
    ∙ ap (λ xs. preferences cap 0 relevant lower + cap_reached_places cap (0 + count_on (take (suc (place - 1)) lower)) (drop (suc (place - 1)) relevant) xs)
    behind
    ∙ ap (λ n. preferences cap 0 relevant lower + n) (reached-past cap 0 relevant lower (suc (place - 1)) long)
    ∙ ap (λ n. preferences cap 0 relevant lower + (cap_reached_places cap 0 relevant lower - count_on (take n relevant))) last
  where
    inside : place - 1 < length lower
    inside = omega (arith, some, within, long)

    last : suc (place - 1) ≡ place
    last = omega (arith, some)

    was-long : length (set lower (place - 1) false) ≡ length relevant
    was-long = length-set lower (place - 1) false ∙ long

    was-off : get_or (set lower (place - 1) false) (place - 1) false ≡ false
    was-off = get_or-set_same lower (place - 1) false false inside

    back : set (set lower (place - 1) false) (place - 1) true ≡ lower
    back = set-set lower (place - 1) false true ∙ ap (set lower (place - 1)) (sym on) ∙ set-get_or lower (place - 1) false

    counted : 0 + count_on (take (place - 1) (set lower (place - 1) false)) + 1 ≡ 0 + count_on (take (suc (place - 1)) lower)
    counted =
        let e : place - 1 + 1 ≡ suc (place - 1) = omega arith in
        let same = ap count_on (take-set lower (place - 1) false) in
        let more = count_by_more_yes (λ b. b) lower (place - 1) false inside on in
        let next = ap (λ n. count_on (take n lower)) e in
        omega (arith, same, more, next)

    behind : drop (suc (place - 1)) (set lower (place - 1) false) ≡ drop (suc (place - 1)) lower
    behind = drop-set-lt (suc (place - 1)) lower (place - 1) false (omega arith)

-- ---- what a tree answers

pub first-of : (on : List Bool) (place : ℕ) → IsSelected on 0 place → place ≡ first_from 1 on
first-of on place selected =
    let from_one = selected.from_one in
    let e : place ≡ 1 + (place - 1) = omega (arith, from_one) in
    e ∙ sym (first-selected 1 on (place - 1) (slice_get_within on (place - 1) true selected.is_on)
    (get_or_from_slice_get on (place - 1) true false selected.is_on) selected.before)

pub first-of-none : (on : List Bool) → count_on on ≤ 0 → 0 ≡ first_from 1 on
first-of-none on none = sym (first-none 1 on (omega (arith, none)))

pub reached-of : (cap : ℕ) (relevant lower : List Bool) (place : ℕ) → length lower ≡ length relevant → IsSelected lower cap place
    → count_on_below relevant (place + 1) ≡ cap_reached_places cap 0 relevant lower
reached-of cap relevant lower place long selected =
    let from_one = selected.from_one in
    let e : place + 1 - 1 ≡ suc (place - 1) = omega (arith, from_one) in
    ap (λ n. count_on (take n relevant)) e
    ∙ sym (reached-to cap 0 relevant lower (place - 1) long (slice_get_within lower (place - 1) true selected.is_on)
    (get_or_from_slice_get lower (place - 1) true false selected.is_on)
    (zero-add (count_on (take (place - 1) lower)) ∙ selected.before))

pub reached-of-all : (cap : ℕ) (relevant lower : List Bool) → length lower ≡ length relevant → count_on lower ≤ cap
    → count_on relevant ≡ cap_reached_places cap 0 relevant lower
reached-of-all cap relevant lower long few = sym (reached-all cap 0 relevant lower long (omega (arith, few)))

pub all-few : (on : List Bool) → count_on on ≤ length on
all-few on = subst (λ (xs : List Bool). count_on xs ≤ length on) (take_all (length on) on (omega arith)) (count-few (length on) on)
