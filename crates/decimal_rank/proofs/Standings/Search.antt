-- The search for a document in entries by document.
use Rattle.std.proofs.Common.{◌≡◌, ℕ, ◌+◌, ◌-◌, ◌/◌, ◌^◌, ◌<◌, ◌≤◌, List, length, get_or, ap, arith, subst}
use Rattle.std.proofs.lemmas.List.{get_or_default}
use Rattle.std.specs.List.Sorted.{IsNonDecreasingBy}
use Rattle.std.specs.Int.Digits.{digits_of}
use Rattle.std.proofs.lemmas.Int.Digits.{length-digits_of_step, length-digits_of-le, number_lt, number_digits_of, all_below_base_digits_of}
use Rattle.decimal_rank.specs.declared.rankings.Entry.{Entry}
use Rattle.decimal_rank.specs.Rankings.Places.{levels}

-- ---- levels

below_levels : (n : ℕ) → n < 2 ^ levels n
unfolding levels
below_levels n =
    subst (λ m. m < 2 ^ length (digits_of 2 n)) (number_digits_of 2 n (omega arith)) (number_lt 2 (digits_of 2 n) (all_below_base_digits_of 2 n (omega arith)))

pub levels-le : (m n : ℕ) → m ≤ n → levels m ≤ levels n
unfolding levels
levels-le m n h = length-digits_of-le 2 (levels n) m (omega arith) (let below = below_levels n in omega arith)

pub levels-half : (n : ℕ) → 0 < n → levels n ≡ levels (n / 2) + 1
unfolding levels
levels-half n h = length-digits_of_step 2 n (omega arith) h

-- ---- the search

-- the document stands below `high` and not below `low`, and the steps so far leave enough for the rest
pub record IsNarrowed (entries : List Entry) (doc low high before now : ℕ) : Type 0 where
  pub ordered : low ≤ high
  pub within : high ≤ length entries
  pub below : (k : ℕ) (d : Entry) → k < low → (get_or entries k d).doc < doc
  pub above : (k : ℕ) (d : Entry) → high ≤ k → k < length entries → doc < (get_or entries k d).doc
  pub cost : now + levels (high - low) ≤ before + levels (length entries)

-- a step halves what is left
halves : (size rest before now most : ℕ) → 0 < size → rest ≤ size / 2 → now + levels size ≤ before + most → now + 1 + levels rest ≤ before + most
halves size rest before now most some le h =
    let half = levels-half size some in
    let less = levels-le rest (size / 2) le in
    omega arith

pub goes_up : (entries : List Entry) (doc low high before now middle : ℕ) (e : Entry)
    → IsNonDecreasingBy (λ entry. entry.doc) entries → IsNarrowed entries doc low high before now
    → low < high → middle ≡ low + (high - low) / 2 → (get_or entries middle e).doc < doc → IsNarrowed entries doc (middle + 1) high before (now + 1)
goes_up entries doc low high before now middle e sorted n lt is less = record {
  ordered = omega arith;
  within = n.within;
  below = λ k d h.
      let within = n.within in
      let up = sorted k middle e (omega arith) (omega arith) in
      let same : (get_or entries k d).doc ≡ (get_or entries k e).doc = ap (λ x. x.doc) (get_or_default entries k d e (omega arith)) in
      omega (arith, up, same);
  above = n.above;
  cost = halves (high - low) (high - (middle + 1)) before now (levels (length entries)) (omega arith) (omega arith) n.cost;
}

pub goes_down : (entries : List Entry) (doc low high before now middle : ℕ) (e : Entry)
    → IsNonDecreasingBy (λ entry. entry.doc) entries → IsNarrowed entries doc low high before now
    → low < high → middle ≡ low + (high - low) / 2 → doc < (get_or entries middle e).doc → IsNarrowed entries doc low middle before (now + 1)
goes_down entries doc low high before now middle e sorted n lt is less = record {
  ordered = omega arith;
  within = let within = n.within in omega arith;
  below = n.below;
  above = λ k d h l.
      let up = sorted middle k e h l in
      let same : (get_or entries k d).doc ≡ (get_or entries k e).doc = ap (λ x. x.doc) (get_or_default entries k d e l) in
      omega (arith, up, same);
  cost = halves (high - low) (middle - low) before now (levels (length entries)) (omega arith) (omega arith) n.cost;
}
