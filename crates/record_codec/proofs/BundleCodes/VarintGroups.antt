-- A number in groups of 7 bits, written one after another.
use Rattle.std.proofs.Common.{◌≡◌, ℕ, zero, suc, ◌+◌, ◌*◌, ◌/◌, ◌%◌, ◌^◌, ◌<◌, ◌≤◌, true, false, [], ◌∷◌, ◌++◌, refl, sym, ap, subst, ◌∙◌, append_assoc, arith, ltb}
use Rattle.std.proofs.Math.Nat.{pow-suc}
use Rattle.std.proofs.lemmas.Bool.Decides.{nat_tests}
use Rattle.rulebook.specs.Words.{Text}
use Rattle.record_codec.specs.Varints.{varint_groups}

-- a number below 2^64 that has at most so many groups
pub record HasGroups (most n : ℕ) : Type 0 where
  pub some : 0 < most
  pub few : n < 128 ^ most
  pub fits : n < 2 ^ 64

fewer_groups : (most n : ℕ) → 128 ≤ n → HasGroups (suc most) n → HasGroups most (n / 128)
fewer_groups zero n wide h = let p = h.few in absurd (omega arith)
fewer_groups (suc most) n wide h =
    let fits = h.fits in
    let few : n < 128 ^ suc most * 128 = subst (λ (k : ℕ). n < k) (pow-suc 128 (suc most)) h.few in
    record { some = omega arith; few = omega (arith, few); fits = omega (arith, fits) }

one_is : (most n : ℕ) → n < 128 → varint_groups (suc most) n ≡ n ∷ []
one_is most n few = let t : ltb n 128 ≡ true = grind (arith, nat_tests) in rw t refl

more_are : (most n : ℕ) → 128 ≤ n → varint_groups (suc most) n ≡ (128 + n % 128) ∷ varint_groups most (n / 128)
more_are most n wide = let t : ltb n 128 ≡ false = grind (arith, nat_tests) in rw t refl

pub next_group : (out total : Text) (most n : ℕ) → 128 ≤ n → HasGroups most n → out ++ varint_groups most n ≡ total
    → (m : ℕ) × HasGroups m (n / 128) × ((out ++ (128 + n % 128) ∷ []) ++ varint_groups m (n / 128) ≡ total)
next_group out total zero n wide h so_far = let none = h.some in absurd (omega arith)
next_group out total (suc m) n wide h so_far = (
  m,
  fewer_groups m n wide h,
  append_assoc out ((128 + n % 128) ∷ []) (varint_groups m (n / 128)) ∙ ap (λ (t : Text). out ++ t) (sym (more_are m n wide)) ∙ so_far,
)

pub end_group : (out total : Text) (most n : ℕ) → n < 128 → HasGroups most n → out ++ varint_groups most n ≡ total
    → out ++ n ∷ [] ≡ total
end_group out total zero n few h so_far = let none = h.some in absurd (omega arith)
end_group out total (suc m) n few h so_far = ap (λ (t : Text). out ++ t) (sym (one_is m n few)) ∙ so_far

pub first_group : (n : ℕ) → n < 2 ^ 64 → HasGroups 10 n
first_group n fits = record { some = omega arith; few = omega arith; fits = fits }
