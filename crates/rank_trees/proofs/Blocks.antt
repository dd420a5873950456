-- Sums over blocks of places, for any measure that adds up.
use Rattle.std.proofs.Common.{◌≡◌, ℕ, zero, suc, ◌+◌, ◌-◌, ◌*◌, ◌<◌, ◌≤◌, Bool, false, List, [], ◌∷◌, length, get_or, set, drop, take, replicate, sum, refl, sym, ap, ◌∙◌, arith}
use Rattle.std.proofs.lemmas.List.{drop-drop, drop-set-add, drop-set-lt, drop-replicate, drop-take, get_or-drop, get_or-take, length-drop, length-take, take-take, take_all, take-set-le}
use Rattle.std.proofs.Math.Nat.{le_trans, mul-le-mul}
use Rattle.std.proofs.Math.Seq.{take-set-lt}
use Rattle.std.proofs.lemmas.List.Sums.{sum_by-cons, sum_by-take-drop}
use Rattle.rank_trees.specs.Blocks.{block_sums}

-- the place so many from the start of a block
abbrev pub place_at : ℕ → ℕ → ℕ → ℕ
place_at size zero k = k
place_at size (suc block) k = size + place_at size block k

pub place-is : (size block k : ℕ) → place_at size block k ≡ size * block + k
place-is size zero k = omega arith
place-is size (suc block) k = omega (arith, place-is size block k)

module _ (measure : ℕ → List Bool → ℕ) (none : (place : ℕ) → measure place [] ≡ 0)
    (split : (place k : ℕ) (on : List Bool) → measure place on ≡ measure place (take k on) + measure (place + k) (drop k on)) (size : ℕ) where
  pub sums-length : (blocks place : ℕ) (on : List Bool) → length (block_sums measure size blocks place on) ≡ blocks
  sums-length zero place on = refl
  sums-length (suc blocks) place on = ap suc (sums-length blocks (place + size) (drop size on))

  pub sums-before : (blocks b place : ℕ) (on : List Bool) → b ≤ blocks
      → sum (take b (block_sums measure size blocks place on)) ≡ measure place (take (size * b) on)
  sums-before blocks zero place on within = let e : size * 0 ≡ 0 = omega arith in sym (ap (λ n. measure place (take n on)) e ∙ none place)
  sums-before zero (suc b) place on within = absurd (omega (arith, within))
  sums-before (suc blocks) (suc b) place on within =
      let rest = sums-before blocks b (place + size) (drop size on) (omega (arith, within)) in
      let more = sum_by-cons (λ x. x) (measure place (take size on)) (take b (block_sums measure size blocks (place + size) (drop size on))) in
      let whole = split place size (take (size * suc b) on) in
      let e : size * suc b ≡ size + size * b = omega arith in
      let first = ap (measure place) (take-take size (size * suc b) on (omega (arith, e))) in
      let behind = ap (measure (place + size)) (ap (λ n. drop size (take n on)) e ∙ drop-take size (size * b) on) in
      omega (arith, more, rest, whole, first, behind)

  pub sums-all : (blocks place : ℕ) (on : List Bool) → length on ≤ size * blocks → sum (block_sums measure size blocks place on) ≡ measure place on
  sums-all blocks place on within =
      ap sum (sym (take_all blocks (block_sums measure size blocks place on) (omega (arith, sums-length blocks place on))))
      ∙ sums-before blocks blocks place on (omega arith)
      ∙ ap (measure place) (take_all (size * blocks) on within)

  -- the blocks from one on have what those before it lack
  pub sums-from : (blocks b place : ℕ) (on : List Bool) → b ≤ blocks
      → sum (drop b (block_sums measure size blocks place on)) + measure place (take (size * b) on) ≡ measure place (take (size * blocks) on)
  sums-from blocks b place on few =
      let list = block_sums measure size blocks place on in
      let whole = ap sum (take_all blocks list (omega (arith, sums-length blocks place on))) in
      omega (arith, whole, sums-before blocks blocks place on (omega arith), sums-before blocks b place on few, sum_by-take-drop (λ x. x) list b)

  pub block-is : (blocks b place : ℕ) (on : List Bool) → b < blocks
      → get_or (block_sums measure size blocks place on) b 0 ≡ measure (place + size * b) (take size (drop (size * b) on))
  block-is zero b place on within = absurd (omega (arith, within))
  block-is (suc blocks) zero place on within =
      let e : place ≡ place + size * 0 = omega arith in
      let n : 0 ≡ size * 0 = omega arith in
      ap (λ p. measure p (take size on)) e ∙ ap (λ m. measure (place + size * 0) (take size (drop m on))) n
  block-is (suc blocks) (suc b) place on within =
      let e : place + size + size * b ≡ place + size * suc b = omega arith in
      let n : size + size * b ≡ size * suc b = omega arith in
      block-is blocks b (place + size) (drop size on) (omega (arith, within))
      ∙ ap (λ p. measure p (take size (drop (size * b) (drop size on)))) e
      ∙ ap (λ xs. measure (place + size * suc b) (take size xs)) (drop-drop (size * b) size on ∙ ap (λ m. drop m on) n)

  module _ (value : ℕ → Bool → ℕ) (off : (place : ℕ) → value place false ≡ 0)
      (one : (place i : ℕ) (on : List Bool) (b : Bool) → i < length on
      → measure place (set on i b) + value (place + i) (get_or on i false) ≡ measure place on + value (place + i) b) where
    -- a place is part of what its list comes to
    pub part-of : (place i : ℕ) (on : List Bool) → i < length on → value (place + i) (get_or on i false) ≤ measure place on
    part-of place i on within = omega (arith, one place i on false within, off (place + i))

    pub sums-set : (blocks block k place : ℕ) (on : List Bool) (b : Bool) → block < blocks → k < size → place_at size block k < length on
        → block_sums measure size blocks place (set on (place_at size block k) b)
        ≡ set (block_sums measure size blocks place on) block
        (get_or (block_sums measure size blocks place on) block 0 - value (place + place_at size block k) (get_or on (place_at size block k) false)
        + value (place + place_at size block k) b)
    sums-set zero block k place on b within less inside = absurd (omega (arith, within))
    sums-set (suc blocks) zero k place on b within less inside =
        let short : k < length (take size on) = omega (arith, length-take size on, less, inside) in
        let here = one place k (take size on) b short in
        let least = part-of place k (take size on) short in
        let same = ap (value (place + k)) (get_or-take size on k false less) in
        let first = ap (measure place) (take-set-lt size on k b less) in
        let head : measure place (take size (set on k b)) ≡ measure place (take size on) - value (place + k) (get_or on k false) + value (place + k) b =
        omega (arith, here, least, same, first) in
        ap (λ xs. measure place (take size (set on k b)) ∷ block_sums measure size blocks (place + size) xs) (drop-set-lt size on k b less)
        ∙ ap (λ n. n ∷ block_sums measure size blocks (place + size) (drop size on)) head
    sums-set (suc blocks) (suc block) k place on b within less inside =
        let e : place + size + place_at size block k ≡ place + (size + place_at size block k) = omega arith in
        let rest = sums-set blocks block k (place + size) (drop size on) b (omega (arith, within)) less (omega (arith, length-drop size on, inside)) in
        let read = get_or-drop size on (place_at size block k) false in
        let xs = block_sums measure size blocks (place + size) (drop size on) in
        ap (λ first. measure place first ∷ block_sums measure size blocks (place + size) (drop size (set on (size + place_at size block k) b)))
        (take-set-le size on (size + place_at size block k) b (omega arith))
        ∙ ap (λ list. measure place (take size on) ∷ block_sums measure size blocks (place + size) list) (drop-set-add size on (place_at size block k) b)
        ∙ ap (λ list. measure place (take size on) ∷ list) (
        rest
        ∙ ap (λ p. set xs block (get_or xs block 0 - value p (get_or (drop size on) (place_at size block k) false) + value p b)) e
        ∙ ap (λ t. set xs block (get_or xs block 0 - value (place + (size + place_at size block k)) t + value (place + (size + place_at size block k)) b)) read
        )

    -- a place is part of what its block comes to
    pub least-of : (blocks block k place : ℕ) (on : List Bool) → block < blocks → k < size → place_at size block k < length on
        → value (place + place_at size block k) (get_or on (place_at size block k) false) ≤ get_or (block_sums measure size blocks place on) block 0
    least-of zero block k place on within less inside = absurd (omega (arith, within))
    least-of (suc blocks) zero k place on within less inside =
        let least = part-of place k (take size on) (omega (arith, length-take size on, less, inside)) in
        let same = ap (value (place + k)) (get_or-take size on k false less) in
        omega (arith, least, same)
    least-of (suc blocks) (suc block) k place on within less inside =
        let e : place + size + place_at size block k ≡ place + (size + place_at size block k) = omega arith in
        let rest = least-of blocks block k (place + size) (drop size on) (omega (arith, within)) less (omega (arith, length-drop size on, inside)) in
        let same = ap (value (place + size + place_at size block k)) (get_or-drop size on (place_at size block k) false)
        ∙ ap (λ p. value p (get_or on (size + place_at size block k) false)) e in
        omega (arith, rest, same)

  -- what a block comes to is small where a place is
  pub sums-small : (unit : ℕ) → ((place : ℕ) (on : List Bool) → 1 ≤ place → measure place on ≤ length on * unit)
      → (blocks block place : ℕ) (on : List Bool) → 1 ≤ place → get_or (block_sums measure size blocks place on) block 0 ≤ size * unit
  sums-small unit bound zero block place on some = omega arith
  sums-small unit bound (suc blocks) zero place on some =
      let short : length (take size on) ≤ size = omega (arith, length-take size on) in
      le_trans (bound place (take size on) some) (mul-le-mul {n₁ = length (take size on)} {m₁ = unit} {n₂ = size} {m₂ = unit} short (omega arith))
  sums-small unit bound (suc blocks) (suc block) place on some = sums-small unit bound blocks block (place + size) (drop size on) (omega (arith, some))

  pub sums-none : ((place n : ℕ) → measure place (replicate n false) ≡ 0) → (blocks place n : ℕ)
      → block_sums measure size blocks place (replicate n false) ≡ replicate blocks 0
  sums-none off zero place n = refl
  sums-none off (suc blocks) place n =
      ap (λ first. first ∷ block_sums measure size blocks (place + size) (drop size (replicate n false))) (first place)
      ∙ ap (λ list. 0 ∷ block_sums measure size blocks (place + size) list) (drop-replicate size n false)
      ∙ ap (λ list. 0 ∷ list) (sums-none off blocks (place + size) (n - size))
    where
      first : (place : ℕ) → measure place (take size (replicate n false)) ≡ 0
      first place = let whole = split place size (replicate n false) in omega (arith, whole, off place n)
