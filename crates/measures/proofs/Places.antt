-- An array of numbers that is filled place after place.
use Rattle.std.proofs.Common.{◌≢◌, get_or-set_other, get_or-set_same, below_more, ◌≡◌, ℕ, ◌+◌, ◌<◌, ◌≤◌, List, map, length, get_or, set, ◌∙◌, arith, refl}
use Rattle.std.specs.Prelude.{All}
use Rattle.std.specs.List.{range_with_len}
use Rattle.std.proofs.lemmas.List.{get_or_default, length-set}
use Rattle.std.proofs.lemmas.List.Edits.{fill_by_more}
use Rattle.std.proofs.lemmas.List.FromFn.{fill_by_all}

-- the first i places have the values of f
pub record ArePlaced (size : ℕ) (f : ℕ → ℕ) (xs : List ℕ) (i : ℕ) : Type 0 where
  pub long : length xs ≡ size
  pub placed : (k : ℕ) → k < i → get_or xs k 0 ≡ f k

pub one_more : (size : ℕ) (f : ℕ → ℕ) (xs : List ℕ) (i v : ℕ) → i < size → v ≡ f i → ArePlaced size f xs i
    → ArePlaced size f (set xs i v) (i + 1)
one_more size f xs i v h e a = rw e (record {
  long = length-set xs i (f i) ∙ a.long;
  placed = let inside : i < length xs = omega (arith, a.long) in fill_by_more f xs i 0 inside a.placed;
})

pub all_placed : (size : ℕ) (f : ℕ → ℕ) (xs : List ℕ) → ArePlaced size f xs size → xs ≡ map f (range_with_len 0 size)
all_placed size f xs a = fill_by_all f xs size 0 a.long a.placed

-- what holds of each placed number holds of one more
pub one_more_within : (xs : List ℕ) (i v most : ℕ) → i < length xs → v ≤ most → ((k : ℕ) → k < i → get_or xs k 0 ≤ most)
    → (k : ℕ) → k < i + 1 → get_or (set xs i v) k 0 ≤ most
one_more_within xs i v most h low below =
    below_more _ i (λ k b. let other : k ≢ i = omega arith in rw get_or-set_other (below k b)) (rw get_or-set_same low)

-- and what holds of each place holds of each number
pub all_within : (size most : ℕ) (xs : List ℕ) → length xs ≡ size → ((k : ℕ) → k < size → get_or xs k 0 ≤ most) → All (λ x. x ≤ most) xs
all_within size most xs long below k d within = rw (get_or_default xs k d 0 within) (below k (omega (arith, long, within)))

pub listed : (size : ℕ) (xs : List ℕ) → length xs ≡ size → xs ≡ map (λ k. get_or xs k 0) (range_with_len 0 size)
listed size xs long = fill_by_all (λ k. get_or xs k 0) xs size 0 long (λ k within. refl)
