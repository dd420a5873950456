-- The number of levels of a tree.
use Rattle.std.proofs.Common.{◌≡◌, ℕ, ◌+◌, ◌-◌, ◌*◌, ◌/◌, ◌^◌, ◌<◌, ◌≤◌, suc, length, ap, ◌∙◌, arith, subst, refl}
use Rattle.std.specs.Int.Digits.{digits_of}
use Rattle.std.proofs.Math.Nat.{pow-succ'}
use Rattle.std.proofs.Math.Pow.{pow_mono}
use Rattle.std.proofs.lemmas.Int.Digits.{length-digits_of_step, length-digits_of-le, number_lt, number_digits_of, all_below_base_digits_of}
use Rattle.decimal_rank.specs.Rankings.Places.{levels}

pub below_levels : (n : ℕ) → n < 2 ^ levels n
unfolding levels
below_levels n =
    subst (λ m. m < 2 ^ length (digits_of 2 n)) (number_digits_of 2 n (omega arith)) (number_lt 2 (digits_of 2 n) (all_below_base_digits_of 2 n (omega arith)))

-- a number below a power of two has as few digits
pub levels-under : (n k : ℕ) → n < 2 ^ k → levels n ≤ k
unfolding levels
levels-under n k less = length-digits_of-le 2 k n (omega arith) less

pub levels-few : (n : ℕ) → n ≤ 63 → levels n ≤ 6
levels-few n few = levels-under n 6 (omega arith)

pub levels-half : (n : ℕ) → 0 < n → levels n ≡ levels (n / 2) + 1
unfolding levels
levels-half n some = length-digits_of_step 2 n (omega arith) some

pub levels-none : (n : ℕ) → n ≡ 0 → levels n ≡ 0
unfolding levels
levels-none n none = ap levels none ∙ refl

-- at most half of a number has fewer digits
pub levels-part : (m n : ℕ) → 1 ≤ n → m ≤ n / 2 → levels m + 1 ≤ levels n
levels-part m n some part =
    let under = below_levels (n / 2) in
    let fewer = levels-under m (levels (n / 2)) (omega (arith, part, under)) in
    let half = levels-half n (omega (arith, some)) in
    omega (arith, fewer, half)

pub levels-le : (m n : ℕ) → m ≤ n → levels m ≤ levels n
levels-le m n less = let under = below_levels n in levels-under m (levels n) (omega (arith, less, under))

pub leaves-few : (depth : ℕ) → depth ≤ 6 → 2 ^ depth ≤ 64
leaves-few depth low = pow_mono {i = depth} {j = 6} low

-- a level has half the nodes of the one under it
pub pow-half : (depth level : ℕ) → level < depth → 2 ^ (depth - level) ≡ 2 * 2 ^ (depth - (level + 1))
pow-half depth level less = let e : depth - level ≡ suc (depth - (level + 1)) = omega arith in ap (λ n. 2 ^ n) e ∙ pow-succ' 2 (depth - (level + 1))

pub pow-twice : (level : ℕ) → 2 ^ (level + 1) ≡ 2 * 2 ^ level
pow-twice level = let e : level + 1 ≡ suc level = omega arith in ap (λ n. 2 ^ n) e ∙ pow-succ' 2 level
