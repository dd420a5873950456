-- Places with the sums of their blocks: what contracts see of them, and one that is put on or off.
use Rattle.std.proofs.Common.{◌≡◌, ℕ, ◌+◌, ◌-◌, ◌*◌, ◌/◌, ◌<◌, ◌≤◌, Bool, false, List, [], length, get_or, set, drop, take, replicate, sum, sym, ap, ◌∙◌, arith, subst}
use Rattle.std.proofs.lemmas.List.{drop-take, get_or-set_other, get_or-set_same, get_or-take, length-replicate, length-set, length-take, take-take}
use Rattle.decimal_rank.proofs.Lists.{get_or-repeated}
use Rattle.rank_trees.specs.Blocks.{AreSummed, block_sums}
use Rattle.rank_trees.proofs.Blocks.{least-of, place_at, sums-before, sums-length, sums-none, sums-set, sums-small}

module _ (measure : ℕ → List Bool → ℕ) (size blocks len : ℕ) (places : List Bool) (sums : List ℕ)
    (are : AreSummed measure size blocks len places sums) (on : List Bool) (view : take len places ≡ on) where
  pub len-is : length on ≡ len
  len-is = omega (arith, ap length view, length-take len places, are.long)

  -- a place that contracts see
  pub place-read : (i : ℕ) → i < length on → get_or places i false ≡ get_or on i false
  place-read i within = sym (get_or-take len places i false (omega (arith, within, len-is))) ∙ ap (λ list. get_or list i false) view

  pub places-before : (i : ℕ) → i ≤ length on → take i places ≡ take i on
  places-before i within = sym (take-take i len places (omega (arith, within, len-is))) ∙ ap (take i) view

module _ (measure : ℕ → List Bool → ℕ) (none : (place : ℕ) → measure place [] ≡ 0)
    (split : (place k : ℕ) (on : List Bool) → measure place on ≡ measure place (take k on) + measure (place + k) (drop k on)) (size : ℕ) where
  -- what stands before a place is what stands before its block, and what stands before it there
  pub before-is : (blocks block k : ℕ) (places : List Bool) → block ≤ blocks → measure 1 (take (size * block + k) places)
      ≡ sum (take block (block_sums measure size blocks 1 places)) + measure (1 + size * block) (take k (drop (size * block) places))
  before-is blocks block k places within =
      let whole = split 1 (size * block) (take (size * block + k) places) in
      let first = ap (measure 1) (take-take (size * block) (size * block + k) places (omega arith)) in
      let behind = ap (measure (1 + size * block)) (drop-take (size * block) k places) in
      omega (arith, whole, first, behind, sums-before measure none split size blocks block 1 places within)

  -- so many places, all off
  pub none-summed : ((place n : ℕ) → measure place (replicate n false) ≡ 0) → (blocks len : ℕ) → len ≤ 1000
      → AreSummed measure size blocks len (replicate (64 * (len / 64 + 1)) false) (replicate blocks 0)
  none-summed off blocks len few = record {
    few = few;
    long = length-replicate {A = Bool} (64 * (len / 64 + 1)) false;
    rest = λ i past. get_or-repeated (64 * (len / 64 + 1)) i false;
    sums_are = sym (sums-none measure none split size off blocks 1 (64 * (len / 64 + 1)));
  }

  module _ (value : ℕ → Bool → ℕ) (off : (place : ℕ) → value place false ≡ 0)
      (one : (place i : ℕ) (on : List Bool) (b : Bool) → i < length on
      → measure place (set on i b) + value (place + i) (get_or on i false) ≡ measure place on + value (place + i) b)
      (blocks len : ℕ) (places : List Bool) (sums : List ℕ) (are : AreSummed measure size blocks len places sums)
      (block k i : ℕ) (fewer : block < blocks) (less : k < size) (at : place_at size block k ≡ i) (within : i < len) where
    inside : place_at size block k < length places
    inside = omega (arith, at, within, are.long)

    pub least-set : value (1 + i) (get_or places i false) ≤ get_or sums block 0
    least-set =
        let part = least-of measure none split size value off one blocks block k 1 places fewer less inside in
        let same = ap (λ n. value (1 + n) (get_or places n false)) at in
        let leaf = ap (λ list. get_or list block 0) are.sums_are in
        omega (arith, part, same, leaf)

    after : (b : Bool)
        → set sums block (get_or sums block 0 - value (1 + i) (get_or places i false) + value (1 + i) b) ≡ block_sums measure size blocks 1 (set places i b)
    after b =
        let list = block_sums measure size blocks 1 places in
        ap (λ xs. set xs block (get_or xs block 0 - value (1 + i) (get_or places i false) + value (1 + i) b)) are.sums_are
        ∙ subst (λ n. set list block (get_or list block 0 - value (1 + n) (get_or places n false) + value (1 + n) b)
        ≡ block_sums measure size blocks 1 (set places n b)) at
        (sym (sums-set measure none split size value off one blocks block k 1 places b fewer less inside))

    pub set-summed : (b : Bool)
        → AreSummed measure size blocks len (set places i b) (set sums block (get_or sums block 0 - value (1 + i) (get_or places i false) + value (1 + i) b))
    set-summed b = record {
      few = are.few;
      long = length-set places i b ∙ are.long;
      rest = λ n past. get_or-set_other places i n b false (omega (arith, past, within)) ∙ are.rest n past;
      sums_are = after b;
    }

    pub small-set : (unit : ℕ) → ((place : ℕ) (on : List Bool) → 1 ≤ place → measure place on ≤ length on * unit) → (b : Bool)
        → get_or sums block 0 - value (1 + i) (get_or places i false) + value (1 + i) b ≤ size * unit
    small-set unit bound b =
        let long = ap length are.sums_are ∙ sums-length measure none split size blocks 1 places in
        let here = get_or-set_same sums block (get_or sums block 0 - value (1 + i) (get_or places i false) + value (1 + i) b) 0 (omega (arith, fewer, long)) in
        let leaf = ap (λ list. get_or list block 0) (after b) in
        let small = sums-small measure none split size unit bound blocks block 1 (set places i b) (omega arith) in
        omega (arith, here, leaf, small)

    -- the same where the change is told by its parts
    pub changed : (was b : Bool) (lost gained : ℕ) (now : List Bool) (new : List ℕ) → was ≡ get_or places i false
        → lost ≡ value (1 + i) was → gained ≡ value (1 + i) b
        → now ≡ set places i b → new ≡ set sums block (get_or sums block 0 - lost + gained) → AreSummed measure size blocks len now new
    changed was b lost gained now new was_is lost_is gained_is now_is new_is =
        let l : lost ≡ value (1 + i) (get_or places i false) = lost_is ∙ ap (value (1 + i)) was_is in
        let leaf = new_is ∙ ap (λ n. set sums block (get_or sums block 0 - n + gained)) l
        ∙ ap (λ n. set sums block (get_or sums block 0 - value (1 + i) (get_or places i false) + n)) gained_is in
        subst (λ xs. AreSummed measure size blocks len now xs) (sym leaf)
        (subst (λ on. AreSummed measure size blocks len on (set sums block (get_or sums block 0 - value (1 + i) (get_or places i false) + value (1 + i) b)))
        (sym now_is) (set-summed b))
