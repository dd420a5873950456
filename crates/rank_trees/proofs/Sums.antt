-- The walks through a tree of sums: up from a leaf, and down to the leaf where a number is exceeded.
use Rattle.std.proofs.Common.{◌≡◌, ℕ, zero, suc, ◌+◌, ◌-◌, ◌*◌, ◌/◌, ◌%◌, ◌^◌, ◌<◌, ◌≤◌, List, get_or, refl, ap, ◌∙◌, arith, zero-add}
use Rattle.std.proofs.Math.Pow.{pow_mono}
use Rattle.rank_trees.specs.SumTrees.{AreNodeSums, span}
use Rattle.rank_trees.proofs.Levels.{pow-half, pow-twice}
use Rattle.rank_trees.proofs.Spans.{span-le, span-level, span-under}

-- ---- bounds

-- the sums are small enough for a word
pub node-small : (depth : ℕ) (nodes : List ℕ) → AreNodeSums depth nodes → (k : ℕ) → 1 ≤ k → get_or nodes k 0 ≤ 2048 * 10 ^ 15
node-small depth nodes are k some = let small = are.small k in let most = mul-le-mul-one k (get_or nodes k 0) some in omega (arith, small, most)
  where
    mul-le-mul-one : (k x : ℕ) → 1 ≤ k → x ≤ k * x
    mul-le-mul-one zero x some = absurd (omega (arith, some))
    mul-le-mul-one (suc k) x some = omega arith

-- ---- up

-- what was added, and what stands to the left on this level, are what stands to the left of the leaf
pub record IsSummed (nodes : List ℕ) (depth index level start at sum : ℕ) : Type 0 where
  pub on_level : start ≡ 2 ^ (depth - level)
  pub high : start ≤ 2 ^ depth
  pub inside : at < start
  pub summed : sum + span nodes start at ≡ span nodes (2 ^ depth) index

pub summed-none : (nodes : List ℕ) (depth index : ℕ) → index < 2 ^ depth → IsSummed nodes depth index 0 (2 ^ depth) index 0
summed-none nodes depth index inside = record {
  on_level = let e : depth ≡ depth - 0 = omega arith in ap (λ n. 2 ^ n) e;
  high = omega arith;
  inside = inside;
  summed = zero-add (span nodes (2 ^ depth) index);
}

-- what is added where a path comes from the right
pub left_is : (nodes : List ℕ) (start at : ℕ) → at % 2 ≡ 1 → span nodes start at ≡ span nodes start (2 * (at / 2)) + get_or nodes (start + at - 1) 0
left_is nodes start at odd =
    let e : at ≡ suc (2 * (at / 2)) = omega arith in
    let place : start + 2 * (at / 2) ≡ start + at - 1 = omega arith in
    let same = ap (span nodes start) e in
    let node = ap (λ k. get_or nodes k 0) place in
    omega (arith, same, node)

pub summed-fits : (depth : ℕ) (nodes : List ℕ) (index level start at sum : ℕ) → AreNodeSums depth nodes
    → index < 2 ^ depth → IsSummed nodes depth index level start at sum → at % 2 ≡ 1
    → sum + get_or nodes (start + at - 1) 0 ≤ 2048 * 10 ^ 15
summed-fits depth nodes index level start at sum are inside summed odd =
    let left = left_is nodes start at odd in
    let all = span-le nodes (2 ^ depth) index (2 ^ depth) (omega arith) in
    let root = span-level depth nodes are depth (omega arith) in
    let small = node-small depth nodes are 1 (omega arith) in
    let is = summed.summed in
    omega (arith, left, all, root, small, is)

module _ (depth : ℕ) (nodes : List ℕ) (index level start at sum : ℕ) (are : AreNodeSums depth nodes) (less : level < depth)
    (summed : IsSummed nodes depth index level start at sum) where
  half : start ≡ 2 * 2 ^ (depth - (level + 1))
  half = summed.on_level ∙ pow-half depth level less

  up : span nodes start (2 * (at / 2)) ≡ span nodes (start / 2) (at / 2)
  up =
      let inside = summed.inside in
      let high = summed.high in
      let e : start ≡ 2 * (start / 2) = omega (arith, half) in
      ap (λ s. span nodes s (2 * (at / 2))) e
      ∙ span-under depth nodes are (start / 2) (at / 2) (omega (arith, half, inside)) (omega (arith, half, inside, high))

  goes : (after : ℕ) → after + span nodes start (2 * (at / 2)) ≡ sum + span nodes start at → IsSummed nodes depth index (level + 1) (start / 2) (at / 2) after
  goes after is =
      let inside = summed.inside in
      let high = summed.high in
      record {
        on_level = omega (arith, half);
        high = omega (arith, high);
        inside = omega (arith, half, inside);
        summed = omega (arith, is, up, summed.summed);
      }

  pub summed-left : at % 2 ≡ 1 → IsSummed nodes depth index (level + 1) (start / 2) (at / 2) (sum + get_or nodes (start + at - 1) 0)
  summed-left odd = let left = left_is nodes start at odd in goes (sum + get_or nodes (start + at - 1) 0) (omega (arith, left))

  pub summed-right : (at % 2 ≡ 1 → ⊥) → IsSummed nodes depth index (level + 1) (start / 2) (at / 2) sum
  summed-right even = let e : 2 * (at / 2) ≡ at = omega (arith, even) in goes sum (ap (λ n. sum + span nodes start n) e)

pub summed-all : (depth : ℕ) (nodes : List ℕ) (index level start at sum : ℕ) → depth ≤ level
    → IsSummed nodes depth index level start at sum → sum ≡ span nodes (2 ^ depth) index
summed-all depth nodes index level start at sum past summed =
    let e : depth - level ≡ 0 = omega arith in
    let top : start ≡ 1 = summed.on_level ∙ ap (λ n. 2 ^ n) e in
    let first : at ≡ 0 = let inside = summed.inside in omega (arith, top, inside) in
    let none = ap (span nodes start) first in
    omega (arith, none, summed.summed)

-- ---- down

-- what stands to the left on this level, and what is left of the number, are the number; the node exceeds what is left
pub record IsNear (nodes : List ℕ) (depth number level start at rest : ℕ) : Type 0 where
  pub on_level : start ≡ 2 ^ level
  pub inside : at < start
  pub number_is : span nodes start at + rest ≡ number
  pub exceeds : rest < get_or nodes (start + at) 0

pub near-root : (nodes : List ℕ) (depth number : ℕ) → number < get_or nodes 1 0 → IsNear nodes depth number 0 1 0 number
near-root nodes depth number less = record {
  on_level = refl;
  inside = omega arith;
  number_is = zero-add number;
  exceeds = less;
}

module _ (depth : ℕ) (nodes : List ℕ) (number level start at rest : ℕ) (are : AreNodeSums depth nodes)
    (less : level < depth) (near : IsNear nodes depth number level start at rest) where
  twice : start * 2 ≡ 2 ^ (level + 1)
  twice = let on_level = near.on_level in let e = pow-twice level in omega (arith, on_level, e)

  pub near-high : start * 2 ≤ 2 ^ depth
  near-high = let most = pow_mono {i = level + 1} {j = depth} (omega arith) in omega (arith, twice, most)

  down : span nodes (start * 2) (at * 2) ≡ span nodes start at
  down =
      let inside = near.inside in
      let high = near-high in
      let s : start * 2 ≡ 2 * start = omega arith in
      let a : at * 2 ≡ 2 * at = omega arith in
      ap (λ n. span nodes n (at * 2)) s ∙ ap (span nodes (2 * start)) a
      ∙ span-under depth nodes are start at (omega (arith, inside)) (omega (arith, inside, high))

  under : get_or nodes (start + at) 0 ≡ get_or nodes (start * 2 + at * 2) 0 + get_or nodes (start * 2 + (at * 2 + 1)) 0
  under =
      let inside = near.inside in
      let high = near-high in
      let here = are.sums (start + at) (omega (arith, inside)) (omega (arith, inside, high)) in
      let l : 2 * (start + at) ≡ start * 2 + at * 2 = omega arith in
      let r : 2 * (start + at) + 1 ≡ start * 2 + (at * 2 + 1) = omega arith in
      let left = ap (λ k. get_or nodes k 0) l in
      let right = ap (λ k. get_or nodes k 0) r in
      omega (arith, here, left, right)

  pub near-right : get_or nodes (start * 2 + at * 2) 0 ≤ rest
      → IsNear nodes depth number (level + 1) (start * 2) (at * 2 + 1) (rest - get_or nodes (start * 2 + at * 2) 0)
  near-right past =
      let inside = near.inside in
      let e : at * 2 + 1 ≡ suc (at * 2) = omega arith in
      let more = ap (span nodes (start * 2)) e in
      record {
        on_level = twice;
        inside = omega (arith, inside);
        number_is = omega (arith, more, down, past, near.number_is);
        exceeds = omega (arith, under, past, near.exceeds);
      }

  pub near-left : rest < get_or nodes (start * 2 + at * 2) 0 → IsNear nodes depth number (level + 1) (start * 2) (at * 2) rest
  near-left before =
      let inside = near.inside in
      record {
        on_level = twice;
        inside = omega (arith, inside);
        number_is = omega (arith, down, near.number_is);
        exceeds = before;
      }

pub near-leaf : (depth : ℕ) (nodes : List ℕ) (number level start at rest : ℕ) → level ≡ depth → IsNear nodes depth number level start at rest
    → (at < 2 ^ depth) × (span nodes (2 ^ depth) at + rest ≡ number) × (rest < get_or nodes (2 ^ depth + at) 0)
near-leaf depth nodes number level start at rest all near =
    let low : start ≡ 2 ^ depth = near.on_level ∙ ap (λ n. 2 ^ n) all in
    let inside = near.inside in
    let same = ap (λ s. span nodes s at) low in
    let here = ap (λ s. get_or nodes (s + at) 0) low in
    (omega (arith, inside, low), omega (arith, same, near.number_is), omega (arith, here, near.exceeds))
