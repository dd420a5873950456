-- What places weigh, one by one and together.
use Rattle.std.proofs.Common.{◌≡◌, ℕ, zero, suc, ◌+◌, ◌-◌, ◌*◌, ◌/◌, ◌%◌, ◌^◌, ◌<◌, ◌≤◌, Bool, true, false, cond, List, [], ◌∷◌, length, get_or, set, drop, take, replicate, sum, refl, sym, ap, ◌∙◌, arith, zero-add, ◌==◌}
use Rattle.std.proofs.lemmas.List.{drop-drop, drop-take, get_or-drop, take-take}
use Rattle.std.proofs.lemmas.Nat.{div-add-mod'}
use Rattle.rank_trees.specs.Blocks.{AreSummed}
use Rattle.rank_trees.specs.PlacesOn.{weight, weights_above, weights_from}
use Rattle.rank_trees.specs.Words.{number_of_bits}
use Rattle.rank_trees.proofs.Blocks.{sums-from, sums-length}
use Rattle.rank_trees.proofs.SummedPlaces.{len-is}
use Rattle.rank_trees.proofs.Words.{number-head, number-tail, odd-bit}

pub weights-none : (place : ℕ) → weights_from place [] ≡ 0
weights-none place = refl

pub weights-split : (place k : ℕ) (on : List Bool) → weights_from place on ≡ weights_from place (take k on) + weights_from (place + k) (drop k on)
weights-split place zero on = let e : place ≡ place + 0 = omega arith in ap (λ p. weights_from p on) e ∙ sym (zero-add (weights_from (place + 0) on))
weights-split place (suc k) [] = refl
weights-split place (suc k) (true ∷ on) =
    let e : place + 1 + k ≡ place + suc k = omega arith in
    let same = ap (λ p. weights_from p (drop k on)) e in
    omega (arith, weights-split (place + 1) k on, same)
weights-split place (suc k) (false ∷ on) =
    let e : place + 1 + k ≡ place + suc k = omega arith in
    let same = ap (λ p. weights_from p (drop k on)) e in
    omega (arith, weights-split (place + 1) k on, same)

-- what a place adds
abbrev pub weight_of : ℕ → Bool → ℕ
weight_of place b = cond b (weight place) 0

pub weight-off : (place : ℕ) → weight_of place false ≡ 0
weight-off place = refl

weights-cons : (place : ℕ) (b : Bool) (on : List Bool) → weights_from place (b ∷ on) ≡ weight_of place b + weights_from (place + 1) on
weights-cons place true on = refl
weights-cons place false on = sym (zero-add (weights_from (place + 1) on))

pub weights-one : (place i : ℕ) (on : List Bool) (b : Bool) → i < length on
    → weights_from place (set on i b) + weight_of (place + i) (get_or on i false) ≡ weights_from place on + weight_of (place + i) b
weights-one place i [] b within = absurd (omega (arith, within))
weights-one place zero (a ∷ on) b within =
    let e : place + 0 ≡ place = omega arith in
    let was = ap (λ p. weight_of p a) e in
    let is = ap (λ p. weight_of p b) e in
    omega (arith, weights-cons place b on, weights-cons place a on, was, is)
weights-one place (suc i) (a ∷ on) b within =
    let e : place + 1 + i ≡ place + suc i = omega arith in
    let was = ap (λ p. weight_of p (get_or on i false)) e in
    let is = ap (λ p. weight_of p b) e in
    omega (arith, weights-cons place a (set on i b), weights-cons place a on, weights-one (place + 1) i on b (omega (arith, within)), was, is)

weight-few : (place : ℕ) (b : Bool) → 1 ≤ place → weight_of place b ≤ 10 ^ 15
weight-few place true some = let least = div-add-mod' (10 ^ 15) place in quotient (10 ^ 15 / place) place some (omega (arith, least))
  where
    quotient : (q place : ℕ) → 1 ≤ place → q * place ≤ 10 ^ 15 → q ≤ 10 ^ 15
    quotient q zero some within = absurd (omega (arith, some))
    quotient q (suc place) some within = omega (arith, within)
weight-few place false some = omega arith

pub weights-few : (place : ℕ) (on : List Bool) → 1 ≤ place → weights_from place on ≤ length on * 10 ^ 15
weights-few place [] some = omega arith
weights-few place (b ∷ on) some = omega (arith, weights-cons place b on, weight-few place b some, weights-few (place + 1) on (omega arith))

pub weights-off : (place n : ℕ) → weights_from place (replicate n false) ≡ 0
weights-off place zero = refl
weights-off place (suc n) = weights-off (place + 1) n

weights-one-more : (place : ℕ) (on : List Bool) (i : ℕ)
    → weights_from place (take (suc i) on) ≡ weights_from place (take i on) + weight_of (place + i) (get_or on i false)
weights-one-more place [] zero = refl
weights-one-more place [] (suc i) = refl
weights-one-more place (b ∷ on) zero =
    let e : place + 0 ≡ place = omega arith in
    let here = ap (λ p. weight_of p b) e in
    omega (arith, weights-cons place b [], here)
weights-one-more place (b ∷ on) (suc i) =
    let e : place + 1 + i ≡ place + suc i = omega arith in
    let here = ap (λ p. weight_of p (get_or on i false)) e in
    omega (arith, weights-cons place b (take (suc i) on), weights-cons place b (take i on), weights-one-more (place + 1) on i, here)

weights-more : (place : ℕ) (on : List Bool) (i : ℕ)
    → weights_from place (take (i + 1) on) ≡ weights_from place (take i on) + weight_of (place + i) (get_or on i false)
weights-more place on i = let e : i + 1 ≡ suc i = omega arith in ap (λ n. weights_from place (take n on)) e ∙ weights-one-more place on i

-- ---- the weights of a word

module _ (on : List Bool) (first i bits sum : ℕ) (left : number_of_bits (drop i on) ≡ bits) (weighed : sum ≡ weights_from first (take i on)) where
  here : bits % 2 ≡ cond (get_or on i false) 1 0
  here = ap (λ n. n % 2) (sym left) ∙ number-head on i

  pub weighed-left : number_of_bits (drop (i + 1) on) ≡ bits / 2
  weighed-left = sym (number-tail on i) ∙ ap (λ n. n / 2) left

  pub weighed-more : (more : ℕ) → more ≡ weight_of (first + i) (bits % 2 == 1) → sum + more ≡ weights_from first (take (i + 1) on)
  weighed-more more is =
      let same = ap (weight_of (first + i)) (odd-bit (get_or on i false) (bits % 2) here) in
      omega (arith, is, same, weights-more first on i, weighed)

-- ---- a tree of weights

-- places that are off weigh nothing
weights-rest : (place m : ℕ) (on : List Bool) → ((i : ℕ) → m ≤ i → get_or on i false ≡ false) → weights_from place (take m on) ≡ weights_from place on
weights-rest place zero on off = nothing place on (λ i. off i (omega arith))
  where
    nothing : (place : ℕ) (on : List Bool) → ((i : ℕ) → get_or on i false ≡ false) → 0 ≡ weights_from place on
    nothing place [] off = refl
    nothing place (b ∷ on) off = let here = ap (weight_of place) (off 0) in
        omega (arith, weights-cons place b on, here, nothing (place + 1) on (λ i. off (suc i)))
weights-rest place (suc m) [] off = refl
weights-rest place (suc m) (b ∷ on) off =
    omega (arith, weights-cons place b (take m on), weights-cons place b on, weights-rest (place + 1) m on (λ i past. off (suc i) (omega (arith, past))))

module _ (len : ℕ) (places : List Bool) (weights : List ℕ) (are : AreSummed weights_from 16 (len / 16 + 1) len places weights)
    (on : List Bool) (view : take len places ≡ on) where
  pub weights-long : length weights ≡ len / 16 + 1
  weights-long = ap length are.sums_are ∙ sums-length weights_from weights-none weights-split 16 (len / 16 + 1) 1 places

  -- what there is behind a place, where contracts see it
  above-is : (place : ℕ) → place ≤ length on → weights_above on place ≡ weights_from (place + 1) (drop place places)
  above-is place within =
      let long = len-is weights_from 16 (len / 16 + 1) len places weights are on view in
      let e : len ≡ place + (len - place) = omega (arith, within, long) in
      ap (λ xs. weights_from (place + 1) (drop place xs)) (sym view)
      ∙ ap (λ n. weights_from (place + 1) (drop place (take n places))) e
      ∙ ap (weights_from (place + 1)) (drop-take place (len - place) places)
      ∙ weights-rest (place + 1) (len - place) (drop place places) (λ i past. get_or-drop place places i false ∙ are.rest (place + i) (omega (arith, past)))

  from-block : (block : ℕ) → block < len / 16 + 1 → sum (drop block weights) ≡ weights_from (1 + 16 * block) (drop (16 * block) places)
  from-block block within =
      let tree = ap (λ list. sum (drop block list)) are.sums_are in
      let blocks = sums-from weights_from weights-none weights-split 16 (len / 16 + 1) block 1 places (omega (arith, within)) in
      let whole = weights-rest 1 (16 * (len / 16 + 1)) places (λ i past. are.rest i (omega (arith, past))) in
      omega (arith, tree, blocks, whole, weights-split 1 (16 * block) places)

  pub above-block : (place block : ℕ) → place ≤ length on → place ≡ 16 * block → sum (drop block weights) ≡ weights_above on place
  above-block place block within is =
      let long = len-is weights_from 16 (len / 16 + 1) len places weights are on view in
      let e : 1 + 16 * block ≡ place + 1 = omega (arith, is) in
      from-block block (omega (arith, within, long, is)) ∙ ap (λ p. weights_from p (drop (16 * block) places)) e
      ∙ ap (λ n. weights_from (place + 1) (drop n places)) (sym is) ∙ sym (above-is place within)

  -- what the tree tells from a block on is what a word tells of it, and what there is behind a place
  pub above-part : (place block k : ℕ) → place ≤ length on → place ≡ 16 * block + k → k ≤ 16
      → sum (drop block weights) ≡ weights_from (16 * block + 1) (take k (take (64 - 16 * block % 64) (drop (16 * block) places))) + weights_above on place
  above-part place block k within is few =
      let long = len-is weights_from 16 (len / 16 + 1) len places weights are on view in
      let first : 1 + 16 * block ≡ 16 * block + 1 = omega arith in
      let e : 1 + 16 * block + k ≡ place + 1 = omega (arith, is) in
      let whole = weights-split (1 + 16 * block) k (drop (16 * block) places) in
      let word = ap (λ p. weights_from p (take k (drop (16 * block) places))) first
      ∙ ap (weights_from (16 * block + 1)) (sym (take-take k (64 - 16 * block % 64) (drop (16 * block) places) (omega (arith, few)))) in
      let rest = ap (λ p. weights_from p (drop k (drop (16 * block) places))) e
      ∙ ap (weights_from (place + 1)) (drop-drop k (16 * block) places ∙ ap (λ n. drop n places) (sym is)) ∙ sym (above-is place within) in
      omega (arith, from-block block (omega (arith, within, long, is)), whole, word, rest)
