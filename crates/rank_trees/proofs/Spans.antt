-- The sums of nodes that stand side by side.
use Rattle.std.proofs.Common.{◌≡◌, ℕ, zero, suc, ◌+◌, ◌-◌, ◌*◌, ◌^◌, ◌<◌, ◌≤◌, List, length, get_or, take, drop, sum, refl, sym, ap, ◌∙◌, arith, zero-add, set, ◌≢◌, subst, replicate, Option, None, Some, MatchOption}
use Rattle.std.proofs.Math.Nat.{lt_of_not-le, one-le-pow, pow-succ'}
use Rattle.std.proofs.Math.Pow.{pow_mono}
use Rattle.std.proofs.lemmas.List.{get_or-drop, get_or-set_other, get_or-take, length-drop, take-take, take_all, take_more, length-take}
use Rattle.std.proofs.Math.Seq.{take-set-lt}
use Rattle.std.proofs.lemmas.List.{drop-replicate, length-replicate, take-replicate}
use Rattle.std.proofs.lemmas.List.Sums.{sum_by_push, sum_by-take-drop}
use Rattle.decimal_rank.specs.Rankings.Places.{levels}
use Rattle.decimal_rank.proofs.Lists.{get_or-repeated}
use Rattle.rank_trees.specs.SumTrees.{AreNodeSums, IsReached, IsSumTree, leaves_of, span}
use Rattle.rank_trees.proofs.Levels.{below_levels}

-- the nodes under so many nodes side by side have the same sum
pub span-under : (depth : ℕ) (nodes : List ℕ) → AreNodeSums depth nodes → (start count : ℕ) → 1 ≤ start
    → start + count ≤ 2 ^ depth → span nodes (2 * start) (2 * count) ≡ span nodes start count
span-under depth nodes are start zero some within = refl
span-under depth nodes are start (suc count) some within =
    let e : 2 * suc count ≡ suc (suc (2 * count)) = omega arith in
    let rest = span-under depth nodes are start count some (omega arith) in
    let here = are.sums (start + count) (omega arith) (omega arith) in
    let left : get_or nodes (2 * (start + count)) 0 ≡ get_or nodes (2 * start + 2 * count) 0 =
    ap (λ k. get_or nodes k 0) (let k : 2 * (start + count) ≡ 2 * start + 2 * count = omega arith in k) in
    let right : get_or nodes (2 * (start + count) + 1) 0 ≡ get_or nodes (2 * start + suc (2 * count)) 0 =
    ap (λ k. get_or nodes k 0) (let k : 2 * (start + count) + 1 ≡ 2 * start + suc (2 * count) = omega arith in k) in
    ap (span nodes (2 * start)) e ∙ omega (arith, rest, here, left, right)

pub span-more : (nodes : List ℕ) (start few more : ℕ) → span nodes start few ≤ span nodes start (few + more)
span-more nodes start few zero =
    let e : few + 0 ≡ few = omega arith in
    let same = ap (span nodes start) e in
    omega (arith, same)
span-more nodes start few (suc more) =
    let e : few + suc more ≡ suc (few + more) = omega arith in
    let same = ap (span nodes start) e in
    omega (arith, same, span-more nodes start few more)

pub span-le : (nodes : List ℕ) (start few many : ℕ) → few ≤ many → span nodes start few ≤ span nodes start many
span-le nodes start few many less =
    let e : few + (many - few) ≡ many = omega arith in
    let same = ap (span nodes start) e in
    omega (arith, same, span-more nodes start few (many - few))

-- a level has the sum of the root
pub span-level : (depth : ℕ) (nodes : List ℕ) → AreNodeSums depth nodes → (level : ℕ) → level ≤ depth → span nodes (2 ^ level) (2 ^ level) ≡ get_or nodes 1 0
span-level depth nodes are zero within = zero-add (get_or nodes 1 0)
span-level depth nodes are (suc level) within =
    let twice = pow-succ' 2 level in
    let most = pow_mono {i = suc level} {j = depth} within in
    ap (λ n. span nodes n n) twice
    ∙ span-under depth nodes are (2 ^ level) (2 ^ level) (one-le-pow level 2 (omega arith)) (omega (arith, twice, most))
    ∙ span-level depth nodes are level (omega arith)

pub span-sum : (nodes : List ℕ) (start count : ℕ) → start + count ≤ length nodes → span nodes start count ≡ sum (take count (drop start nodes))
span-sum nodes start zero within = refl
span-sum nodes start (suc count) within =
    let e : suc count ≡ count + 1 = omega arith in
    let inside : count < length (drop start nodes) = omega (arith, length-drop start nodes) in
    let rest = span-sum nodes start count (omega arith) in
    let more = ap sum (ap (λ n. take n (drop start nodes)) e ∙ take_more (drop start nodes) count 0 inside)
    ∙ sum_by_push (λ x. x) (take count (drop start nodes)) (get_or (drop start nodes) count 0) in
    let here = get_or-drop start nodes count 0 in
    omega (arith, rest, more, here)

-- ---- leaves

pub all_zero : (n k : ℕ) → ◌≡◌ {A = ℕ} (get_or (replicate n 0) k 0) 0
all_zero n k = get_or-repeated {X = ℕ} n k 0

-- where none is, the sum stays
span-rest : (nodes : List ℕ) (start count more : ℕ) → ((k : ℕ) → start + count ≤ k → get_or nodes k 0 ≡ 0)
    → span nodes start (count + more) ≡ span nodes start count
span-rest nodes start count zero none = let e : count + 0 ≡ count = omega arith in ap (span nodes start) e
span-rest nodes start count (suc more) none =
    let e : count + suc more ≡ suc (count + more) = omega arith in
    let same = ap (span nodes start) e in
    let here = none (start + (count + more)) (omega arith) in
    omega (arith, same, here, span-rest nodes start count more none)

module _ (len depth : ℕ) (nodes : List ℕ) (is : IsSumTree len depth nodes) where
  pub room : len ≤ 2 ^ depth
  room = let under = subst (λ d. len - 1 < 2 ^ d) (sym is.deep) (below_levels (len - 1)) in omega (arith, under, is.some)

  pub leaves-length : length (leaves_of len depth nodes) ≡ len
  leaves-length = omega (arith, length-take len (drop (2 ^ depth) nodes), length-drop (2 ^ depth) nodes, is.sums.size, room)

  -- where contracts see these leaves
  pub list-long : (list : List ℕ) → leaves_of len depth nodes ≡ list → length list ≡ len
  list-long list view = ap length (sym view) ∙ leaves-length

  pub list-deep : (list : List ℕ) → leaves_of len depth nodes ≡ list → levels (length list - 1) ≡ depth
  list-deep list view = ap (λ n. levels (n - 1)) (list-long list view) ∙ sym is.deep

  pub leaves-before : (index : ℕ) → index ≤ len → span nodes (2 ^ depth) index ≡ sum (take index (leaves_of len depth nodes))
  leaves-before index within =
      span-sum nodes (2 ^ depth) index (omega (arith, is.sums.size, room)) ∙ ap sum (sym (take-take index len (drop (2 ^ depth) nodes) within))

  pub leaves-root : get_or nodes 1 0 ≡ sum (leaves_of len depth nodes)
  leaves-root =
      let e : len + (2 ^ depth - len) ≡ 2 ^ depth = omega (arith, room) in
      sym (span-level depth nodes is.sums depth (omega arith))
      ∙ ap (span nodes (2 ^ depth)) (sym e)
      ∙ span-rest nodes (2 ^ depth) len (2 ^ depth - len) is.rest
      ∙ leaves-before len (omega arith)
      ∙ ap sum (take_all len (leaves_of len depth nodes) (omega (arith, leaves-length)))

  pub leaves-from : (index : ℕ) → index ≤ len → get_or nodes 1 0 - span nodes (2 ^ depth) index ≡ sum (drop index (leaves_of len depth nodes))
  leaves-from index within =
      omega (arith, leaves-root, leaves-before index within, sum_by-take-drop (λ x. x) (leaves_of len depth nodes) index)

  -- a leaf of the list
  pub leaf-at : (index : ℕ) → index < len → get_or nodes (2 ^ depth + index) 0 ≡ get_or (leaves_of len depth nodes) index 0
  leaf-at index within = sym (get_or-take len (drop (2 ^ depth) nodes) index 0 within ∙ get_or-drop (2 ^ depth) nodes index 0)

  pub leaf-is : (list : List ℕ) → leaves_of len depth nodes ≡ list → (index : ℕ) → index < length list
      → get_or nodes (2 ^ depth + index) 0 ≡ get_or list index 0
  leaf-is list view index within = leaf-at index (omega (arith, within, list-long list view)) ∙ ap (λ leaves. get_or leaves index 0) view

  pub leaf-reached : (number index rest : ℕ) → span nodes (2 ^ depth) index + rest ≡ number → rest < get_or nodes (2 ^ depth + index) 0
      → IsReached (leaves_of len depth nodes) number index rest
  leaf-reached number index rest before reached = record {
    within = omega (arith, within, leaves-length);
    before = omega (arith, before, leaves-before index (omega (arith, within)));
    reached = omega (arith, reached, leaf-at index within);
  }
    where
      past : len ≤ index → ⊥
      past h = let none = is.rest (2 ^ depth + index) (omega (arith, h)) in omega (arith, none, reached)

      within : index < len
      within = lt_of_not-le past

  pub found-leaf : (list : List ℕ) → leaves_of len depth nodes ≡ list → (number : ℕ) (found : Option (ℕ × ℕ))
      → MatchOption found (span nodes (2 ^ depth) (2 ^ depth) ≤ number)
      (λ found. (found.0 < 2 ^ depth) × (span nodes (2 ^ depth) found.0 + found.1 ≡ number) × (found.1 < get_or nodes (2 ^ depth + found.0) 0))
      → MatchOption found (sum list ≤ number) (λ found. IsReached list number found.0 found.1)
  found-leaf list view number None h =
      let root = leaves-root in
      let level = span-level depth nodes is.sums depth (omega arith) in
      let same = ap sum view in
      omega (arith, h, root, level, same)
  found-leaf list view number (Some found) h = subst (λ leaves. IsReached leaves number found.0 found.1) view (leaf-reached number found.0 found.1 h.1 h.2)

-- ---- a tree whose leaves are 0

pub new-sums : (depth : ℕ) → depth ≤ 6 → AreNodeSums depth (replicate (2 * 2 ^ depth) 0)
new-sums depth low = record {
  low = low;
  size = length-replicate {A = ℕ} (2 * 2 ^ depth) 0;
  sums = λ k some within. omega (arith, all_zero (2 * 2 ^ depth) k, all_zero (2 * 2 ^ depth) (2 * k), all_zero (2 * 2 ^ depth) (2 * k + 1));
  small = λ k. subst (λ x. k * x ≤ 2048 * 10 ^ 15) (sym (all_zero (2 * 2 ^ depth) k)) (omega arith);
}

pub new-tree : (last depth : ℕ) → last ≤ 63 → depth ≡ levels last → depth ≤ 6 → IsSumTree (last + 1) depth (replicate (2 * 2 ^ depth) 0)
new-tree last depth few deep low = record {
  some = omega arith;
  few = omega (arith, few);
  deep = let e : last + 1 - 1 ≡ last = omega arith in deep ∙ ap levels (sym e);
  sums = new-sums depth low;
  rest = λ k past. all_zero (2 * 2 ^ depth) k;
}

pub new-leaves : (len depth : ℕ) → len ≤ 2 ^ depth → leaves_of len depth (replicate (2 * 2 ^ depth) 0) ≡ replicate len 0
new-leaves len depth within =
    ap (take len) (drop-replicate (2 ^ depth) (2 * 2 ^ depth) 0) ∙ take-replicate len (2 * 2 ^ depth - 2 ^ depth) 0 (omega (arith, within))

-- ---- a leaf that is written

module _ (len depth : ℕ) (was : List ℕ) (is : IsSumTree len depth was) (now : List ℕ) (index value : ℕ) (within : index < len)
    (leaves : drop (2 ^ depth) now ≡ set (drop (2 ^ depth) was) index value) where
  pub set-tree : AreNodeSums depth now → IsSumTree len depth now
  set-tree sums = record {
    some = is.some;
    few = is.few;
    deep = is.deep;
    sums = sums;
    rest = λ k past.
        let e : k ≡ 2 ^ depth + (k - 2 ^ depth) = omega (arith, past) in
        let other : k - 2 ^ depth ≢ index = omega (arith, past, within) in
        ap (λ n. get_or now n 0) e ∙ sym (get_or-drop (2 ^ depth) now (k - 2 ^ depth) 0) ∙ ap (λ xs. get_or xs (k - 2 ^ depth) 0) leaves
        ∙ get_or-set_other (drop (2 ^ depth) was) index (k - 2 ^ depth) value 0 other ∙ get_or-drop (2 ^ depth) was (k - 2 ^ depth) 0
        ∙ ap (λ n. get_or was n 0) (sym e) ∙ is.rest k past;
  }

  pub set-leaves : (list : List ℕ) → leaves_of len depth was ≡ list → leaves_of len depth now ≡ set list index value
  set-leaves list view = ap (take len) leaves ∙ take-set-lt len (drop (2 ^ depth) was) index value within ∙ ap (λ l. set l index value) view
