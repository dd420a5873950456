-- A leaf that is written, and the nodes above it that are brought up to date.
use Rattle.std.proofs.Common.{◌≡◌, ◌≢◌, ℕ, zero, suc, ◌+◌, ◌-◌, ◌*◌, ◌/◌, ◌^◌, ◌<◌, ◌≤◌, List, drop, length, get_or, set, sym, ap, ◌∙◌, arith, subst, inl, inr}
use Rattle.std.proofs.Math.Nat.{mul-le-mul, one-le-pow}
use Rattle.std.proofs.lemmas.Bool.Decides.{eqb_tells}
use Rattle.std.proofs.lemmas.List.{drop-set-add, drop-set-lt, get_or-set_other, get_or-set_same, length-set}
use Rattle.rank_trees.specs.SumTrees.{AreNodeSums}
use Rattle.rank_trees.proofs.Levels.{leaves-few, pow-half}

-- up to this node the nodes are up to date; `before` are the nodes before the leaf had its new value
pub record IsUpdated (before now : List ℕ) (depth index value less more level node : ℕ) : Type 0 where
  pub long : length now ≡ length before
  pub leaves : drop (2 ^ depth) now ≡ set (drop (2 ^ depth) before) index value
  pub at_least : 2 ^ (depth - level) ≤ node
  pub at_most : node < 2 * 2 ^ (depth - level)
  pub high : 2 ^ (depth - level) ≤ 2 ^ depth
  pub sums : (k : ℕ) → 1 ≤ k → k < 2 ^ depth → k ≢ node / 2 → get_or now k 0 ≡ get_or now (2 * k) 0 + get_or now (2 * k + 1) 0
  pub small : (k : ℕ) → k * get_or now k 0 ≤ 2048 * 10 ^ 15
  pub left : (k : ℕ) → k < 2 * node → k ≢ node → get_or now k 0 ≡ get_or before k 0
  pub here : get_or now node 0 + less ≡ get_or before node 0 + more
  pub least : less ≤ get_or before node 0

-- by cases on whether two numbers are one
pub same_or : (P : Type 0) (m n : ℕ) → (m ≡ n → P) → (m ≢ n → P) → P
same_or P m n same other = elim (eqb_tells m n) [ inl h ↦ same h.1 | inr h ↦ other h.1 ]

module _ (depth : ℕ) (before : List ℕ) (index value less more : ℕ) (are : AreNodeSums depth before) (inside : index < 2 ^ depth)
    (is : value ≡ get_or before (2 ^ depth + index) 0 - less + more) (least : less ≤ get_or before (2 ^ depth + index) 0) (little : value ≤ 16 * 10 ^ 15) where
  pub updated-leaf : IsUpdated before (set before (2 ^ depth + index) value) depth index value less more 0 (2 ^ depth + index)
  updated-leaf =
      let size = are.size in
      let within : 2 ^ depth + index < length before = omega (arith, size, inside) in
      let first : depth - 0 ≡ depth = omega arith in
      let level : 2 ^ (depth - 0) ≡ 2 ^ depth = ap (λ n. 2 ^ n) first in
      let same = get_or-set_same before (2 ^ depth + index) value 0 within in
      record {
        long = length-set before (2 ^ depth + index) value;
        leaves = drop-set-add (2 ^ depth) before index value;
        at_least = omega (arith, level);
        at_most = omega (arith, level, inside);
        high = omega (arith, level);
        sums = λ k some under apart. apart_sums k some under apart;
        small = λ k. each_small k;
        left = λ k less apart. get_or-set_other before (2 ^ depth + index) k value 0 apart;
        here = omega (arith, same, is, least);
        least = least;
      }
    where
      apart_sums : (k : ℕ) → 1 ≤ k → k < 2 ^ depth → k ≢ (2 ^ depth + index) / 2
          → get_or (set before (2 ^ depth + index) value) k 0
          ≡ get_or (set before (2 ^ depth + index) value) (2 * k) 0 + get_or (set before (2 ^ depth + index) value) (2 * k + 1) 0
      apart_sums k some under apart =
          let a : k ≢ 2 ^ depth + index = omega (arith, under) in
          let b : 2 * k ≢ 2 ^ depth + index = λ e. apart (omega (arith, e)) in
          let c : 2 * k + 1 ≢ 2 ^ depth + index = λ e. apart (omega (arith, e)) in
          let at_a = get_or-set_other before (2 ^ depth + index) k value 0 a in
          let at_b = get_or-set_other before (2 ^ depth + index) (2 * k) value 0 b in
          let at_c = get_or-set_other before (2 ^ depth + index) (2 * k + 1) value 0 c in
          omega (arith, at_a, at_b, at_c, are.sums k some under)

      each_small : (k : ℕ) → k * get_or (set before (2 ^ depth + index) value) k 0 ≤ 2048 * 10 ^ 15
      each_small k = same_or _ k (2 ^ depth + index) at_leaf elsewhere
        where
          at_leaf : k ≡ 2 ^ depth + index → k * get_or (set before (2 ^ depth + index) value) k 0 ≤ 2048 * 10 ^ 15
          at_leaf e =
              let few = leaves-few depth are.low in
              let size = are.size in
              let within : 2 ^ depth + index < length before = omega (arith, size, inside) in
              let read : get_or (set before (2 ^ depth + index) value) k 0 ≡ value =
              ap (λ n. get_or (set before (2 ^ depth + index) value) n 0) e ∙ get_or-set_same before (2 ^ depth + index) value 0 within in
              subst (λ x. k * x ≤ 2048 * 10 ^ 15) (sym read)
              (mul-le-mul {n₁ = k} {m₁ = value} {n₂ = 128} {m₂ = 16 * 10 ^ 15} (omega (arith, e, few, inside)) little)

          elsewhere : k ≢ 2 ^ depth + index → k * get_or (set before (2 ^ depth + index) value) k 0 ≤ 2048 * 10 ^ 15
          elsewhere apart = subst (λ x. k * x ≤ 2048 * 10 ^ 15) (sym (get_or-set_other before (2 ^ depth + index) k value 0 apart)) (are.small k)

module _ (depth : ℕ) (before now : List ℕ) (index value less more level node : ℕ) (are : AreNodeSums depth before)
    (under : level < depth) (updated : IsUpdated before now depth index value less more level node) where
  half : 2 ^ (depth - level) ≡ 2 * 2 ^ (depth - (level + 1))
  half = pow-half depth level under

  pub above-some : 1 ≤ node / 2
  above-some = let pos = one-le-pow (depth - (level + 1)) 2 (omega arith) in let at_least = updated.at_least in omega (arith, half, pos, at_least)

  pub above-within : node / 2 < 2 ^ depth
  above-within = let at_most = updated.at_most in let high = updated.high in omega (arith, half, at_most, high)

  above-now : get_or now (node / 2) 0 ≡ get_or before (node / 2) 0
  above-now = let some = above-some in updated.left (node / 2) (omega (arith, some)) (omega (arith, some))

  -- the nodes below the one above have its sum but for the change
  pair : get_or now (2 * (node / 2)) 0 + get_or now (2 * (node / 2) + 1) 0 + less ≡ get_or before (node / 2) 0 + more
  pair = same_or _ node (2 * (node / 2)) from_left from_right
    where
      was : get_or before (node / 2) 0 ≡ get_or before (2 * (node / 2)) 0 + get_or before (2 * (node / 2) + 1) 0
      was = are.sums (node / 2) above-some above-within

      from_left : node ≡ 2 * (node / 2) → get_or now (2 * (node / 2)) 0 + get_or now (2 * (node / 2) + 1) 0 + less ≡ get_or before (node / 2) 0 + more
      from_left e =
          let some = above-some in
          let other = updated.left (2 * (node / 2) + 1) (omega (arith, some, e)) (omega (arith, e)) in
          let a = ap (λ k. get_or now k 0) e in
          let b = ap (λ k. get_or before k 0) e in
          omega (arith, was, other, a, b, updated.here)

      from_right : node ≢ 2 * (node / 2) → get_or now (2 * (node / 2)) 0 + get_or now (2 * (node / 2) + 1) 0 + less ≡ get_or before (node / 2) 0 + more
      from_right apart =
          let some = above-some in
          let e : node ≡ 2 * (node / 2) + 1 = omega (arith, apart) in
          let other = updated.left (2 * (node / 2)) (omega (arith, some, e)) (omega (arith, e)) in
          let a = ap (λ k. get_or now k 0) e in
          let b = ap (λ k. get_or before k 0) e in
          omega (arith, was, other, a, b, updated.here)

  pub above-least : less ≤ get_or before (node / 2) 0
  above-least = same_or _ node (2 * (node / 2)) (λ e. from (ap (λ k. get_or before k 0) e))
      (λ apart. let e : node ≡ 2 * (node / 2) + 1 = omega (arith, apart) in from_other (ap (λ k. get_or before k 0) e))
    where
      was : get_or before (node / 2) 0 ≡ get_or before (2 * (node / 2)) 0 + get_or before (2 * (node / 2) + 1) 0
      was = are.sums (node / 2) above-some above-within

      from : get_or before node 0 ≡ get_or before (2 * (node / 2)) 0 → less ≤ get_or before (node / 2) 0
      from e = let least = updated.least in omega (arith, was, e, least)

      from_other : get_or before node 0 ≡ get_or before (2 * (node / 2) + 1) 0 → less ≤ get_or before (node / 2) 0
      from_other e = let least = updated.least in omega (arith, was, e, least)

  pub above-enough : less ≤ get_or now (node / 2) 0
  above-enough = omega (arith, above-least, above-now)

  abbrev after : List ℕ
  after = set now (node / 2) (get_or now (node / 2) 0 - less + more)

  sum_is : get_or now (node / 2) 0 - less + more ≡ get_or now (2 * (node / 2)) 0 + get_or now (2 * (node / 2) + 1) 0
  sum_is = omega (arith, pair, above-now, above-enough)

  sum-small : (node / 2) * (get_or now (node / 2) 0 - less + more) ≤ 2048 * 10 ^ 15
  sum-small = subst (λ x. (node / 2) * x ≤ 2048 * 10 ^ 15) (sym sum_is)
      (halves (node / 2) (get_or now (2 * (node / 2)) 0) (get_or now (2 * (node / 2) + 1) 0)
      (updated.small (2 * (node / 2))) (updated.small (2 * (node / 2) + 1)))
    where
      halves : (k x y : ℕ) → 2 * k * x ≤ 2048 * 10 ^ 15 → (2 * k + 1) * y ≤ 2048 * 10 ^ 15 → k * (x + y) ≤ 2048 * 10 ^ 15
      halves k x y a b = omega (arith, a, b)

  pub sum-fits : get_or now (node / 2) 0 - less + more ≤ 2048 * 10 ^ 15
  sum-fits = at_least_one (node / 2) (get_or now (node / 2) 0 - less + more) above-some sum-small
    where
      at_least_one : (k x : ℕ) → 1 ≤ k → k * x ≤ 2048 * 10 ^ 15 → x ≤ 2048 * 10 ^ 15
      at_least_one zero x some h = absurd (omega (arith, some))
      at_least_one (suc k) x some h = omega (arith, h)

  pub updated-above : IsUpdated before (set now (node / 2) (get_or now (node / 2) 0 - less + more)) depth index value less more (level + 1) (node / 2)
  updated-above =
      let at_least = updated.at_least in
      let at_most = updated.at_most in
      let high = updated.high in
      let within : node / 2 < length now = omega (arith, above-within, updated.long, are.size) in
      let same = get_or-set_same now (node / 2) (get_or now (node / 2) 0 - less + more) 0 within in
      record {
        long = length-set now (node / 2) (get_or now (node / 2) 0 - less + more) ∙ updated.long;
        leaves = drop-set-lt (2 ^ depth) now (node / 2) (get_or now (node / 2) 0 - less + more) above-within ∙ updated.leaves;
        at_least = omega (arith, half, at_least);
        at_most = omega (arith, half, at_most);
        high = omega (arith, half, high);
        sums = λ k some under apart. same_or _ k (node / 2) (at_above k within) (elsewhere k some under apart);
        small = λ k. same_or _ k (node / 2) (small_above k within)
            (λ apart. subst (λ x. k * x ≤ 2048 * 10 ^ 15) (sym (get_or-set_other now (node / 2) k (get_or now (node / 2) 0 - less + more) 0 apart))
            (updated.small k));
        left = λ k fewer apart. get_or-set_other now (node / 2) k (get_or now (node / 2) 0 - less + more) 0 apart
            ∙ updated.left k (omega (arith, fewer)) (omega (arith, fewer, above-some));
        here = omega (arith, same, above-now, above-enough);
        least = above-least;
      }
    where
      at_above : (k : ℕ) → node / 2 < length now → k ≡ node / 2 → get_or after k 0 ≡ get_or after (2 * k) 0 + get_or after (2 * k + 1) 0
      at_above k within e =
          let some = above-some in
          let here = ap (λ n. get_or after n 0) e ∙ get_or-set_same now (node / 2) (get_or now (node / 2) 0 - less + more) 0 within in
          let l : 2 * k ≢ node / 2 = omega (arith, e, some) in
          let r : 2 * k + 1 ≢ node / 2 = omega (arith, e, some) in
          let left = get_or-set_other now (node / 2) (2 * k) (get_or now (node / 2) 0 - less + more) 0 l ∙ ap (λ n. get_or now (2 * n) 0) e in
          let right = get_or-set_other now (node / 2) (2 * k + 1) (get_or now (node / 2) 0 - less + more) 0 r ∙ ap (λ n. get_or now (2 * n + 1) 0) e in
          omega (arith, here, left, right, sum_is)

      elsewhere : (k : ℕ) → 1 ≤ k → k < 2 ^ depth → k ≢ node / 2 / 2 → k ≢ node / 2 → get_or after k 0 ≡ get_or after (2 * k) 0 + get_or after (2 * k + 1) 0
      elsewhere k some under apart other =
          let l : 2 * k ≢ node / 2 = λ e. apart (omega (arith, e)) in
          let r : 2 * k + 1 ≢ node / 2 = λ e. apart (omega (arith, e)) in
          let here = get_or-set_other now (node / 2) k (get_or now (node / 2) 0 - less + more) 0 other in
          let left = get_or-set_other now (node / 2) (2 * k) (get_or now (node / 2) 0 - less + more) 0 l in
          let right = get_or-set_other now (node / 2) (2 * k + 1) (get_or now (node / 2) 0 - less + more) 0 r in
          omega (arith, here, left, right, updated.sums k some under other)

      small_above : (k : ℕ) → node / 2 < length now → k ≡ node / 2 → k * get_or after k 0 ≤ 2048 * 10 ^ 15
      small_above k within e =
          let here = ap (λ n. get_or after n 0) e ∙ get_or-set_same now (node / 2) (get_or now (node / 2) 0 - less + more) 0 within in
          subst (λ x. k * x ≤ 2048 * 10 ^ 15) (sym here) (subst (λ n. n * (get_or now (node / 2) 0 - less + more) ≤ 2048 * 10 ^ 15) (sym e) sum-small)

pub updated-all : (depth : ℕ) (before now : List ℕ) (index value less more level node : ℕ) → AreNodeSums depth before
    → depth ≤ level → IsUpdated before now depth index value less more level node → AreNodeSums depth now
updated-all depth before now index value less more level node are past updated =
    let e : depth - level ≡ 0 = omega arith in
    let top : 2 ^ (depth - level) ≡ 1 = ap (λ n. 2 ^ n) e in
    let at_most = updated.at_most in
    record {
      low = are.low;
      size = updated.long ∙ are.size;
      sums = λ k some under. updated.sums k some under (omega (arith, some, top, at_most));
      small = updated.small;
    }
