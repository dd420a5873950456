-- How many places are on, in words and in blocks.
use Rattle.std.proofs.Common.{◌≡◌, ℕ, zero, suc, ◌+◌, ◌-◌, ◌*◌, ◌/◌, ◌%◌, ◌<◌, ◌≤◌, Bool, true, false, cond, List, [], ◌∷◌, Some, length, get_or, set, drop, take, replicate, sum, refl, sym, ap, ◌∙◌, arith}
use mir.Val.{bool_byte}
use Rattle.std.specs.Prelude.{slice_get}
use Rattle.std.proofs.Math.Nat.{lt_of_not-le}
use Rattle.std.proofs.lemmas.Bool.{false≢true}
use Rattle.std.proofs.lemmas.List.{drop_all, get_or-drop, get_or-take, length-take, take-take}
use Rattle.std.proofs.lemmas.List.Sums.{count_by-le-length, sum_by-cons, sum_by-set, sum_by-take-drop, sum_by-take-le}
use Rattle.std.proofs.lemmas.Option.{slice_get-get_or}
use Rattle.rank_trees.specs.Blocks.{AreSummed, count_from}
use Rattle.rank_trees.specs.PlacesOn.{IsSelected, count_on}
use Rattle.rank_trees.specs.SumTrees.{IsReached}
use Rattle.rank_trees.specs.Words.{IsNth, number_of_bits}
use Rattle.rank_trees.proofs.Blocks.{block-is, sums-all, sums-before, sums-length}
use Rattle.rank_trees.proofs.SummedPlaces.{before-is, len-is, place-read, places-before}
use Rattle.rank_trees.proofs.Words.{number-head, number-tail}

pub count-none : (place : ℕ) → count_from place [] ≡ 0
count-none place = refl

pub count-split : (place k : ℕ) (on : List Bool) → count_from place on ≡ count_from place (take k on) + count_from (place + k) (drop k on)
count-split place k on = sym (sum_by-take-drop (λ t. cond t 1 0) on k)

-- what a place adds
abbrev pub one_if : ℕ → Bool → ℕ
one_if place b = bool_byte b

byte-is : (b : Bool) → bool_byte b ≡ cond b 1 0
byte-is true = refl
byte-is false = refl

pub one-off : (place : ℕ) → one_if place false ≡ 0
one-off place = refl

pub count-one : (place i : ℕ) (on : List Bool) (b : Bool) → i < length on
    → count_from place (set on i b) + one_if (place + i) (get_or on i false) ≡ count_from place on + one_if (place + i) b
count-one place i on b within = omega (arith, sum_by-set (λ t. cond t 1 0) on i b false within, byte-is b, byte-is (get_or on i false))

pub count-few : (place : ℕ) (on : List Bool) → 1 ≤ place → count_from place on ≤ length on * 1
count-few place on some = omega (arith, count_by-le-length (λ b. b) on)

pub count-off : (place n : ℕ) → count_from place (replicate n false) ≡ 0
count-off place zero = refl
count-off place (suc n) = omega (arith, sum_by-cons (λ t. cond t 1 0) false (replicate n false), count-off place n)

count-one-more : (on : List Bool) (i : ℕ) → count_on (take (suc i) on) ≡ count_on (take i on) + cond (get_or on i false) 1 0
count-one-more [] zero = refl
count-one-more [] (suc i) = refl
count-one-more (b ∷ on) zero = omega (arith, sum_by-cons (λ t. cond t 1 0) b [])
count-one-more (b ∷ on) (suc i) =
    omega (arith, sum_by-cons (λ t. cond t 1 0) b (take (suc i) on), sum_by-cons (λ t. cond t 1 0) b (take i on), count-one-more on i)

count-more : (on : List Bool) (i : ℕ) → count_on (take (i + 1) on) ≡ count_on (take i on) + cond (get_or on i false) 1 0
count-more on i = let e : i + 1 ≡ suc i = omega arith in ap (λ n. count_on (take n on)) e ∙ count-one-more on i

-- ---- the place of a word that has so many before it

module _ (on : List Bool) (number place bits rest : ℕ) (left : number_of_bits (drop place on) ≡ bits) (counted : count_on (take place on) + rest ≡ number) where
  here : bits % 2 ≡ cond (get_or on place false) 1 0
  here = ap (λ n. n % 2) (sym left) ∙ number-head on place

  pub nth-here : (bit : ℕ) → bit ≡ bits % 2 → rest < bit → IsNth on number place
  nth-here bit is more = record {
    within = lt_of_not-le past;
    is_on = set-bit (get_or on place false) here;
    before = omega (arith, counted, is, more);
  }
    where
      odd : bits % 2 ≡ 1
      odd = omega (arith, is, more)

      set-bit : (b : Bool) → bits % 2 ≡ cond b 1 0 → b ≡ true
      set-bit true e = refl
      set-bit false e = absurd (omega (arith, e, odd))

      past : length on ≤ place → ⊥
      past h = let empty = ap number_of_bits (drop_all place on h) in omega (arith, empty, left, odd)

  pub nth-more : (bit : ℕ) → bit ≡ bits % 2 → bit ≤ rest → count_on (take (place + 1) on) + (rest - bit) ≡ number
  nth-more bit is few = omega (arith, count-more on place, here, is, few, counted)

  pub nth-left : number_of_bits (drop (place + 1) on) ≡ bits / 2
  nth-left = sym (number-tail on place) ∙ ap (λ n. n / 2) left

-- ---- a tree of counts

module _ (len : ℕ) (places : List Bool) (counts : List ℕ) (are : AreSummed count_from 64 (len / 64 + 1) len places counts)
    (on : List Bool) (view : take len places ≡ on) where
  pub counts-long : length counts ≡ len / 64 + 1
  counts-long = ap length are.sums_are ∙ sums-length count_from count-none count-split 64 (len / 64 + 1) 1 places

  pub counts-few : (block : ℕ) → block < len / 64 + 1 → sum (take block counts) ≤ 64 * block
  counts-few block within =
      let before = ap (λ list. sum (take block list)) are.sums_are
      ∙ sums-before count_from count-none count-split 64 (len / 64 + 1) block 1 places (omega (arith, within)) in
      omega (arith, before, count_by-le-length (λ b. b) (take (64 * block) places), length-take (64 * block) places)

  -- what the tree tells before a block, and a word tells in it, is what there is before a place
  pub count-before : (block k : ℕ) → block < len / 64 + 1 → k ≤ 64
      → sum (take block counts) + count_on (take k (take (64 - 64 * block % 64) (drop (64 * block) places))) ≡ count_on (take (64 * block + k) places)
  count-before block k within few =
      let tree = ap (λ list. sum (take block list)) are.sums_are in
      let all = before-is count_from count-none count-split 64 (len / 64 + 1) block k places (omega (arith, within)) in
      let word = ap count_on (take-take k (64 - 64 * block % 64) (drop (64 * block) places) (omega (arith, few))) in
      omega (arith, tree, all, word)

  pub counts-all : sum counts ≡ count_on places
  counts-all = ap sum are.sums_are ∙ sums-all count_from count-none count-split 64 (len / 64 + 1) 1 places (omega (arith, are.long))

  pub none-selected : (j : ℕ) → sum counts ≤ j → count_on on ≤ j
  none-selected j past = omega (arith, past, counts-all, sum_by-take-le (λ t. cond t 1 0) places len, ap count_on view)

  module _ (j block rest : ℕ) (reached : IsReached counts j block rest) where
    pub block-within : block < len / 64 + 1
    block-within = omega (arith, reached.within, counts-long)

    pub rest-few : rest < count_on (take (64 - 64 * block % 64) (drop (64 * block) places))
    rest-few =
        let leaf = ap (λ list. get_or list block 0) are.sums_are ∙ block-is count_from count-none count-split 64 (len / 64 + 1) block 1 places block-within in
        let whole : 64 - 64 * block % 64 ≡ 64 = omega arith in
        let word = ap (λ n. count_on (take n (drop (64 * block) places))) whole in
        omega (arith, leaf, word, reached.reached)

    module _ (at : ℕ) (nth : IsNth (take (64 - 64 * block % 64) (drop (64 * block) places)) rest at) where
      short : at < 64
      short = omega (arith, nth.within, length-take (64 - 64 * block % 64) (drop (64 * block) places))

      stands : get_or places (64 * block + at) false ≡ true
      stands = sym (get_or-take (64 - 64 * block % 64) (drop (64 * block) places) at false (omega (arith, short)) ∙ get_or-drop (64 * block) places at false)
          ∙ nth.is_on

      pub selected-within : 64 * block + at < len
      selected-within = lt_of_not-le (λ past. false≢true (sym (are.rest (64 * block + at) past) ∙ stands))

      pub selected : IsSelected on j (64 * block + at + 1)
      selected =
          let long = len-is count_from 64 (len / 64 + 1) len places counts are on view in
          let back : 64 * block + at + 1 - 1 ≡ 64 * block + at = omega arith in
          let before = count-before block at block-within (omega (arith, short)) in
          let same = ap count_on
          (places-before count_from 64 (len / 64 + 1) len places counts are on view (64 * block + at) (omega (arith, selected-within, long))) in
          let counted : count_on (take (64 * block + at) on) ≡ j = omega (arith, before, same, nth.before, reached.before) in
          record {
            from_one = omega arith;
            is_on = ap (slice_get on) back ∙ slice_get-get_or on (64 * block + at) false (omega (arith, selected-within, long))
                ∙ ap Some (sym (place-read count_from 64 (len / 64 + 1) len places counts are on view (64 * block + at) (omega (arith, selected-within, long)))
                ∙ stands);
            before = ap (λ n. count_on (take n on)) back ∙ counted;
          }
